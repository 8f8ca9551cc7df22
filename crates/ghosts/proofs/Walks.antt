-- Walks of functions that make a struct without a field that runs. Assumes `Logic`.
use Rattle.std.proofs.Common.{List, [], ◌∷◌, refl}
use seplogic.Ra.Ura.{Ura}
use mir.Val.{Val, vstruct, vnil}
use types.Logic.{Logic}
use types.Kit.{Goal, Step, step, Item, ‵, ◌$◌, fjoin, fpack, feq_i}
use denote.RattleType.{Valss}
use denote.Steps.{nothing}
use denote.Struct.Struct.{Struct, within}

-- the value that a machine keeps of such a struct
abbrev pub no_fields : Val
no_fields = vstruct vnil

-- it needs no resource, because it owns nothing
module _ {M : Type 1} {𝓤 : Ura M} {𝓛 : Logic 𝓤} {K : Type 0} {Γ : List (Item 𝓤)} {G : Goal 𝓤 𝓛.H} where
  pub made_of_nothing : K → Step K 𝓛
      (‵ ((Struct (record { name = []; args = []; types = []; fields = [] })).own_val tt (no_fields ∷ [])) ∷ Γ) G Γ G
  made_of_nothing t = step (λ s.
      nothing t $ feq_i t (List Val) (no_fields ∷ []) (no_fields ∷ []) refl $ fjoin t $
      fpack t (Valss []) (within (record { name = []; args = []; types = []; fields = [] }) tt (no_fields ∷ [])) tt $ s)
