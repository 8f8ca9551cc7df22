-- Noise, cut piece by piece.
use Rattle.std.proofs.Common.{◌≡◌, ◌≢◌, ℕ, ◌+◌, ◌-◌, length-drop, List, [], ◌∷◌, ◌++◌, length, take, drop, ap, sym, ◌∙◌, true, rules}
use Rattle.std.specs.Prelude.{filter}
use Rattle.std.proofs.lemmas.Bool.{cond-true}
use Rattle.std.proofs.lemmas.List.{take-append-drop, take_all}
use Rattle.std.proofs.Math.Seq.{take-add}
use Rattle.std.proofs.lemmas.List.Elements.{filter-append}
use Rattle.stk_frame.specs.Cut.{cut, is_good}
use Rattle.stk_frame.specs.declared.reader.Event.{Event}
use Rattle.stk_frame.specs.declared.reader.Event.TheVariants.{Frame}
use Rattle.stk_frame.specs.Reader.{MayHaveBeenFed, Fed, EventMatchesHeld, frames_of_event}
use Rattle.stk_frame.proofs.Cuts.{cut_append}
use Rattle.stk_host.proofs.Tapes.Readings.{no_good}

good_fed : (old used new : List ℕ) (fs : List (List ℕ)) (text : List ℕ) → Fed old used new fs → MayHaveBeenFed old text
    → filter is_good (cut text) ≡ [] → filter is_good (cut (text ++ used)) ≡ filter is_good fs
good_fed old used new fs text fed stands none = search (rules, filter-append, no_good)

-- the rest of the noise, as the code cuts it
fed_rest : (old new noise : List ℕ) (at used : ℕ) (fs : List (List ℕ))
    → Fed old (take used (take (length noise - at) (drop at noise))) new fs → Fed old (take used (drop at noise)) new fs
fed_rest old new noise at used fs fed = search (rules, take_all, length-drop)

pub noise_next : (old new noise : List ℕ) (at used : ℕ) (event : Event)
    → Fed old (take used (take (length noise - at) (drop at noise))) new (frames_of_event event new)
    → EventMatchesHeld event new → event ≢ Frame
    → MayHaveBeenFed old (take at noise) → filter is_good (cut (take at noise)) ≡ []
    → MayHaveBeenFed new (take (at + used) noise) × (filter is_good (cut (take (at + used) noise)) ≡ [])
noise_next old new noise at used event part is_reported bad stands none =
    let fs = frames_of_event event new in
    let fed = fed_rest old new noise at used fs part in
    let good_is = good_fed old (take used (drop at noise)) new fs (take at noise) fed stands none in
    rw (take-add at used noise) (fed.stands (take at noise) stands, good_is ∙ (search rules))

pub good_next : (old new noise : List ℕ) (at used : ℕ)
    → Fed old (take used (take (length noise - at) (drop at noise))) new (new ∷ []) → is_good new ≡ true
    → MayHaveBeenFed old (take at noise) → filter is_good (cut (take at noise)) ≡ [] → filter is_good (cut noise) ≢ []
good_next old new noise at used part good stands none e =
    let prefix = take at noise ++ take used (drop at noise) in
    let here : filter is_good (cut prefix) ≡ new ∷ [] =
    good_fed old _ new (new ∷ []) (take at noise) (fed_rest old new noise at used (new ∷ []) part) stands none
    ∙ cond-true (is_good new) (new ∷ []) [] good in
    let all : prefix ++ drop (at + used) noise ≡ noise = rw (← take-add) (take-append-drop (at + used) noise) in
    search (rules, cut_append, filter-append)
