use Rattle.std.proofs.Common.{List, ◌++◌, map, sym, subst, IsPermutation}
use Rattle.std.specs.Prelude.{IsSorted}
use Rattle.std.proofs.lemmas.List.Sorted.{IsPermutation-map, IsPermutation-append}
use Rattle.link_lines.specs.Line.{LinkValue, link_value}
use Rattle.link_lines.specs.Order.{line_cmp}
use Rattle.link_lines.proofs.Sorted.{sorted_map}
use Rattle.wit_component.specs.Places as spec
use Rattle.wit_component.specs.View as view
use Rattle.wit_component.proofs.Results.{ok_map}
use Rattle.wit_component.proofs.Entries.{table_lines}
use Rattle.wit_component.proofs.LinkLines.{lines_sorted}
use Rattle.wit_component.proofs.links.sorted_links.Goals as goal

pub returns : goal.returns
returns c =
    let l = view.linking c.args.linking.now in
    let is = c.sort.new.self.items in
    let es = c.sort-2.new.self.items in
    let imports : IsPermutation (spec.import_lines l) (map spec.import_text is) = subst (λ (xs : List LinkValue). IsPermutation xs (map spec.import_text is)) c.in_ok-imports.ensures (IsPermutation-map spec.import_text _ _ c.in_ok-sort.ensures.permutation) in
    let exports : IsPermutation (spec.export_lines l) (map spec.export_text es) = subst (λ (xs : List LinkValue). IsPermutation xs (map spec.export_text es)) c.in_ok-exports.ensures (IsPermutation-map spec.export_text _ _ c.in_ok-sort-2.ensures.permutation) in
    let order : IsSorted line_cmp (map spec.import_text is ++ map spec.export_text es) = lines_sorted is es (sorted_map spec.import_text line_cmp is c.in_ok-sort.ensures.sorted) (sorted_map spec.export_text line_cmp es c.in_ok-sort-2.ensures.sorted) in
    ok_map c.links_in_order.result (λ v values. record {
      items = subst (λ (ls : List LinkValue). IsPermutation ls (map link_value v.items)) (sym (table_lines l)) (subst (IsPermutation (spec.import_lines l ++ spec.export_lines l)) (sym (rw (c.deref.ensures.value, c.deref-2.ensures.value) at values)) (IsPermutation-append (spec.import_lines l) (map spec.import_text is) (spec.export_lines l) (map spec.export_text es) imports exports));
      order = subst (IsSorted line_cmp) (sym (rw (c.deref.ensures.value, c.deref-2.ensures.value) at values)) order;
    }) c.links_in_order.ensures
