use Rattle.rows.specs.Rows.{content_of}
use Rattle.rows.proofs.row.Row.content.Goals as goal

pub returns : goal.returns
unfolding content_of
returns c = c.content_numbered.ensures
