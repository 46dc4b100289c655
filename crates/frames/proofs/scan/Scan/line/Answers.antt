use Rattle.std.proofs.Common.{rules}
use Rattle.frames.proofs.Lines.{line_holds}
use Rattle.frames.proofs.scan.Scan.line.Goals as goal

pub returns-in-Blank : goal.returns-in-Blank
returns-in-Blank c = record { value = search rules; holds = line_holds c.args.self _ (search rules) }

pub returns-in-Zero : goal.returns-in-Zero
returns-in-Zero c = record { value = search rules; holds = line_holds c.args.self _ (search rules) }

pub returns-in-Digits : goal.returns-in-Digits
returns-in-Digits c = record { value = search rules; holds = line_holds c.args.self _ (search rules) }

pub returns-in-Ended : goal.returns-in-Ended
returns-in-Ended c = record { value = search rules; holds = line_holds c.args.self _ (search rules) }

pub returns-in-Prefix : goal.returns-in-Prefix
returns-in-Prefix c = record { value = search rules; holds = line_holds c.args.self _ (search rules) }
