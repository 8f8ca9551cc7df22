-- Links over sockets: their other side, and what passed over them.
use Rattle.std.specs.Prelude.{ℕ, ◌≡◌, ◌⊎◌, [], Option, Some, None, MatchOption}
use Rattle.std.specs.declared.io.Read.{Ghosts as Reads}
use Rattle.std.specs.declared.io.Write.{Ghosts as Writes}
use Rattle.avr_io.specs.Record.{Bytes}
use Rattle.avr_tool.specs.declared.network.Callers.{Ghosts as Called}
use Rattle.avr_tool.specs.declared.network.Network.{Ghosts as Networks}
use Rattle.stk_host.specs.Links.{TranscriptIsTrueSince, StreamState, stream_state}
use Rattle.stk_host.specs.Transcript.{LinkState}

-- A link over two sides of this socket, over which nothing has passed.
pub record IsNewLink {S : Type 0} (IsSide : S → Type 0) (link : StreamState S S) : Type 0 where
  pub reader : IsSide link.reader
  pub writer : IsSide link.writer
  pub fresh : link.failures ≡ 0
  pub quiet : link.transcript ≡ []

-- The state of a link that was new over two sides of this socket. Its reader gave what it received, and timed out when
-- it received timeouts. Its writer took what it sent, and then both were closed.
pub record IsOver {S : Type 0} (reads : Reads S) (has_timed_out : S → Type 0) (writes : Writes S)
    (closed IsSide : S → Type 0) (now : LinkState) : Type 0 where
  pub before : StreamState S S
  pub after : StreamState S S
  pub new : IsNewLink IsSide before
  pub shows : stream_state after ≡ now
  pub truly : TranscriptIsTrueSince reads.remaining has_timed_out writes.contents before after
  pub reader : closed after.reader
  pub writer : closed after.writer

-- What happened to a socket: a link over it has this state, or there was none.

-- A connection to this address.
abbrev pub IsOverAddress : {N S L : Type 0} → Networks N S L → Reads S → (S → Type 0) → Writes S → (S → Type 0)
    → Bytes → Option LinkState → Type 0
IsOverAddress network reads has_timed_out writes closed address seen = MatchOption seen (network.misses address)
    (IsOver reads has_timed_out writes closed (λ side. network.reaches side address))

-- A connection accepted at this listener.
abbrev pub IsOverClient : {L S : Type 0} → Called L S → Reads S → (S → Type 0) → Writes S → (S → Type 0) → L
    → Option LinkState → Type 0
IsOverClient called reads has_timed_out writes closed listener seen = MatchOption seen (called.lacks listener)
    (IsOver reads has_timed_out writes closed (called.calls listener))

-- A connection accepted at a listener at this port. Without a link there was no listener, or no client could be
-- accepted. Or the port's text is no number, and the network was left unused.
abbrev pub IsOverPort : {N S L : Type 0} → Networks N S L → Called L S → Reads S → (S → Type 0) → Writes S
    → (S → Type 0) → Option ℕ → Option LinkState → Type 0
IsOverPort {L = L} network called reads has_timed_out writes closed (Some port) seen = ((seen ≡ None)
    × network.is_shut port) ⊎ ((listener : L) × network.listens listener port
    × IsOverClient called reads has_timed_out writes closed listener seen)
IsOverPort network called reads has_timed_out writes closed None seen = (seen ≡ None) × network.unused

-- What is known of a run's network: on a connection to an address, on a client at a port, and that it was left unused.
pub record Peers : Type 1 where
  pub at_address : Bytes → Option LinkState → Type 0
  pub at_port : Option ℕ → Option LinkState → Type 0
  pub unused : Type 0

-- What is known of a network, by the ghost members of its traits.
abbrev pub peers_of : {N S L : Type 0} → Networks N S L → Called L S → Reads S → (S → Type 0) → Writes S
    → (S → Type 0) → Peers
peers_of network called reads has_timed_out writes closed = record {
  at_address = IsOverAddress network reads has_timed_out writes closed;
  at_port = IsOverPort network called reads has_timed_out writes closed;
  unused = network.unused;
}
