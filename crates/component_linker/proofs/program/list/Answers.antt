use Rattle.std.proofs.Common.{refl, ap, ◌∙◌}
use Rattle.link_lines.specs.Texts.{lines_text}
use Rattle.component_linker.specs.Stops.{out_path}
use Rattle.wit_component.proofs.Results.{moved_up}
use Rattle.component_linker.proofs.Answering.{cut_off}
use Rattle.component_linker.proofs.program.list.Goals as goal

pub returns-in_err-put-clause-err : goal.returns-in_err-put-clause-err
returns-in_err-put-clause-err g c =
    let stop = c.in_err-put.field-0.0 in
    let links = c.in_ok-links.links.items in
    moved_up c.from_residual-in_err-put.result stop _ c.from_residual-in_err-put.ensures.1
    (cut_off _ _ _ (out_path c.args.line.now) stop c.in_err-put.ensures.err (0, c.as_bytes.result.now, (refl, (links, c.in_ok-links.ensures.links, c.as_bytes.ensures.value ∙ c.in_ok-text.ensures ∙ ap lines_text c.deref.ensures.value)), c.in_err-put.ensures.part))
