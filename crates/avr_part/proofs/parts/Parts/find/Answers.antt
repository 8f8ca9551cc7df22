use Rattle.std.proofs.Common.{◌∙◌, ap, sym, rules, Option, ok_or, ◌++◌}
use Rattle.std.proofs.lemmas.Iterator.Adapters.{option_map_id}
use Rattle.std.proofs.lemmas.Iterator.Search.{find_from_yields_List}
use Rattle.std.proofs.lemmas.Iterator.Consumers.{YieldsList-from_first}
use Rattle.avr_part.specs.Part.{Part}
use Rattle.avr_part.specs.BuiltIn.{has_id, built_in_parts}
use Rattle.avr_part.specs.declared.fault.PartFault.TheVariants.{NoSuchPart}
use Rattle.avr_part.proofs.parts.Parts.find.Goals as goal

pub returns-clause-value : goal.returns-clause-value
returns-clause-value c =
    c.ok_or.ensures.value
    ∙ ap (λ (o : Option Part). ok_or o NoSuchPart)
    (sym (option_map_id c.find.result)
    ∙ find_from_yields_List (has_id c.args.id.now) _ _ c.find.result c.find.ensures.ran
    (YieldsList-from_first (λ (x : Part). x) (λ left. left) (c.args.self.now ++ built_in_parts) c.iter.ensures)
    (λ x b q k. search rules))
