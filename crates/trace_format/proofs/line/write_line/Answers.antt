use Rattle.std.proofs.Common.{rules}
use Rattle.trace_format.proofs.Telling.{telling}
use Rattle.trace_format.proofs.line.write_line.Goals as goal

pub returns-then-buffer-lt-LINE_MAX : goal.returns-then-buffer-lt-LINE_MAX
returns-then-buffer-lt-LINE_MAX c = record { result = search rules; after = search rules; laws = telling }

pub returns : goal.returns
returns c = record { result = search rules; after = search rules; laws = telling }
