use Rattle.std.proofs.Common.{map, subst, ap, ◌∙◌}
use Rattle.wasm_types.specs.Entries.{import_value}
use Rattle.core_links.specs.Marks.{is_marked, picked, ArePicked}
use Rattle.core_links.specs.Names.{names_in}
use Rattle.core_links.specs.Needed.{own_functions}
use Rattle.core_links.specs.View.{linked_of}
use Rattle.core_links.proofs.Picking.{own_needed, linked_needed}
use Rattle.core_links.proofs.imports.ImportLinks.needed_functions.Goals as goal

pub returns-clause-own : goal.returns-clause-own
returns-clause-own c =
    let n = names_in c.args.names.now in
    let m = c.in_ok-marks.marks in
    own_needed n (map import_value c.args.imports.now) m.own.items m.interfaces.items c.in_ok-marks.ensures.marks (map (λ f. f.now) c.in_ok-own_marked.field-0.items)
    (c.in_ok-own_marked.ensures ∙ ap (λ marks. own_functions (picked (is_marked marks) n.world.imports.entries)) c.as_slice.ensures.value)

pub returns-clause-linked : goal.returns-clause-linked
returns-clause-linked c =
    let n = names_in c.args.names.now in
    let m = c.in_ok-marks.marks in
    let linked = linked_of c.in_ok-all_marked.field-0.items in
    linked_needed n (map import_value c.args.imports.now) m.own.items m.interfaces.items c.in_ok-marks.ensures.marks linked
    (subst (λ marks. ArePicked n.known.interfaces marks linked) c.as_slice-2.ensures.value c.in_ok-all_marked.ensures)
