use Rattle.std.proofs.Common.{rules, append_assoc}
use Rattle.avrstk_session.proofs.Pages.{next_page}
use Rattle.avrstk_session.proofs.outline.push_pages.Goals as goal

pub loop-page-preserved : goal.loop-page-preserved
loop-page-preserved c = search (rules, next_page, append_assoc)
