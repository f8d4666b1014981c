use Rattle.std.proofs.Common.{refl}
use Rattle.command_line.proofs.Added.{added, added_last}
use Rattle.command_line.proofs.line.with_reading.Goals as goal

pub returns : goal.returns
returns c =
    let first = added c.in_ok-arg.ensures c.flag_arg.ensures.local c.flag_arg.ensures.rule refl in
    let second = added c.in_ok-arg-2.ensures c.flag_arg-2.ensures.local c.flag_arg-2.ensures.rule first in
    added_last _ _ c.arg-3.result c.arg-3.ensures c.flag_arg-3.ensures.local c.flag_arg-3.ensures.rule second
