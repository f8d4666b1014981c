use Rattle.std.proofs.Common.{length, ap, arith, ◌≡◌}
use Rattle.std.proofs.lemmas.List.{length-map}
use Rattle.wasm_types.specs.Entries.{import_value}
use Rattle.right_components.specs.Passed.link_table-Linking.{linking_value, types_of}
use Rattle.linked_imports.proofs.Entries.{all_there, entry_got, entries_next}
use Rattle.linked_imports.proofs.Taken.{keeps_on, beside_on}
use Rattle.linked_imports.proofs.imports.Imported.indices.Goals as goal

pub index_at-requires-clause-entry : goal.index_at-requires-clause-entry
index_at-requires-clause-entry c =
    let l = linking_value c.args.linking.now in
    let n : length l.main.imports ≡ length c.args.linking.now.main.now.imports.items = length-map c.args.linking.now.main.now.imports.items import_value in
    let e = ap length c.as_slice-index-end.ensures.value in
    let lt = c.loop-index-test.true in
    let t = c.requires.table in
    let r = entry_got l t.0 c.loop-index.index t.1 (omega (arith, n, e, lt)) in
    (t.0, r.0, t.1, r.1)

pub index_at-requires-clause-there : goal.index_at-requires-clause-there
index_at-requires-clause-there c = all_there (linking_value c.args.linking.now) c.args.self.now c.loop-index.self c.loop-index.invariant.keeps c.loop-index.invariant.beside c.requires.there

pub loop-index-preserved : goal.loop-index-preserved
loop-index-preserved c =
    let l = linking_value c.args.linking.now in
    let n : length l.main.imports ≡ length c.args.linking.now.main.now.imports.items = length-map c.args.linking.now.main.now.imports.items import_value in
    let e = ap length c.as_slice-index-end.ensures.value in
    let lt = c.loop-index-test.true in
    let old = c.loop-index.self in
    let new = c.index_at.new.self in
    let a = c.in_ok-index_at.ensures in
    let before = c.loop-index.invariant in
    let k = c.loop-index.index in
    record {
      keeps = keeps_on c.args.self.now.root old.root new.root (types_of l) before.keeps a.keeps;
      beside = beside_on c.args.self.now old new before.beside a.beside;
      placed = λ h. a.placed (before.placed h);
      are = λ t is.
          let r = entry_got l t k is (omega (arith, n, e, lt)) in
          entries_next l old.root new.root t k c.in_ok-index_at.field-0 c.loop-index.indices.items c.push.new.self.items r.0 r.1 a.keeps c.in_ok-push.ensures.items (before.are t is) (a.ok t r.0 is r.1);
    }
