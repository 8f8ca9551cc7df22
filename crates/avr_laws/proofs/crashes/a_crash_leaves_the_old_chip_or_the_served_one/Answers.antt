use Rattle.avr_plan.specs.Port.{port_number}
use Rattle.avr_tool.specs.Sockets.{peers_of}
use Rattle.avr_laws.proofs.ChipFile.Killed.{service_killed}
use Rattle.avr_laws.proofs.crashes.a_crash_leaves_the_old_chip_or_the_served_one.Goals as goal

pub returns : goal.returns
returns g c = λ fresh is_reported settings port file status s.
    let peers = peers_of g.N.Network g.N.Listener.Callers g.N.Stream.Read g.N.Stream.Inlet.has_timed_out
    g.N.Stream.Write g.N.Stream.Side.closed in
    service_killed _ _ _ _ c.args.before.now c.args.after.now fresh is_reported peers.unused
    (peers.at_port (port_number port)) settings port file status s
