use Rattle.std.proofs.Common.{◌≡◌, ◌++◌, ◌-◌, ◌/◌}
use Rattle.avrstk_session.specs.Outline.{pages_text}
use Rattle.avrstk_session.proofs.outline.push_pages.Given as goal

abbrev pub invariant-loop-page : goal.invariant-loop-page
invariant-loop-page l = record {
  all : l.text.items ++ pages_text l.part l.image l.page (l.part.flash_size / l.part.flash_page - l.page)
      ≡ l.initial.text.items ++ pages_text l.part l.image 0 (l.part.flash_size / l.part.flash_page);
  ends : l.pages ≡ l.part.flash_size / l.part.flash_page;
}
