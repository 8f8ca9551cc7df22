use Rattle.std.proofs.Common.{ap, ◌∙◌, List, ℕ, map, string_bytes}
use Rattle.std.proofs.lemmas.Result.{IfErr-weaker, IfOk-weaker}
use Rattle.clap.specs.Words.{App, takes, is_simple_and_free}
use Rattle.avr_plan.proofs.ParsedCommands.{is_simple-avrstk, is_free-avrstk, rows_given}
use Rattle.avr_plan.proofs.command.read_words.Goals as goal

pub returns : goal.returns
returns c =
    let is = c.in_ok-make_command.ensures.app in
    let words : List (List ℕ) = map string_bytes c.args.words.now in
    let parse = c.try_get_matches_from in
    record {
      rows = search (IfOk-weaker, rows_given, is_simple-avrstk);
      taken = IfErr-weaker parse.result _ _ (λ e h t. h (ap (λ (a : App). takes a words) is ∙ t)) parse.ensures.passes;
      refused = rw (← is) (parse.ensures.kinds (ap is_simple_and_free is ∙ is_free-avrstk));
    }
