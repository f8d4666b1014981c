use Rattle.std.proofs.Common.{◌<◌, ℕ, List, Some, length, sym, subst, ap, ◌∙◌, arith}
use Rattle.std.specs.Prelude.{slice_get}
use Rattle.wit_closures.specs.Lists.{part, IsWithin}
use Rattle.wit_closures.proofs.Parting.{parts_long, part_at, range_has}
use Rattle.wit_closures.proofs.lists.Lists.get.Goals as goal

pub part-requires : goal.part-requires
part-requires c = subst (λ (xs : List ℕ). IsWithin (length xs) c.index.result.now) (sym c.as_slice.ensures.value) (c.self.invariant c.index.result.now (range_has c.self.inside.ranges.items c.args.index c.index.result.now (let long = parts_long c.self.inside.items.items c.self.inside.ranges.items in let all = ap (λ (v : List (List ℕ)). length v) c.self.view_is in let l = c.requires in let r : c.args.index < length c.self.inside.ranges.items = omega (arith, long, all, l) in r) c.index.ensures))

pub returns : goal.returns
returns c =
    ap (λ (v : List (List ℕ)). slice_get v c.args.index) (sym c.self.view_is) ∙ part_at c.self.inside.items.items c.self.inside.ranges.items c.args.index c.index.result.now (let long = parts_long c.self.inside.items.items c.self.inside.ranges.items in let all = ap (λ (v : List (List ℕ)). length v) c.self.view_is in let l = c.requires in let r : c.args.index < length c.self.inside.ranges.items = omega (arith, long, all, l) in r) c.index.ensures
    ∙ ap (λ (l : List ℕ). Some l) (ap (λ (xs : List ℕ). part xs c.index.result.now) (sym c.as_slice.ensures.value) ∙ sym c.part.ensures)
