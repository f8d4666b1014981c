use Rattle.std.proofs.Common.{ℕ, List, ap, subst}
use Rattle.std.specs.Prelude.{string_bytes}
use Rattle.wit_types.specs.declared.world.WorldItem.TheVariants as item
use Rattle.wit_sides.specs.Renames.{IsRenamed}
use Rattle.wit_sides.proofs.renames.Renames.renamed_item.Goals as goal

pub returns-in_ok-name-in-Function : goal.returns-in_ok-name-in-Function
returns-in_ok-name-in-Function c =
    let to = c.in_ok-name-in-Function.name in
    rw c.in-Function.is (to, ap item.Function c.with_name.ensures, subst (λ (n : List ℕ). IsRenamed c.args.self.now n (string_bytes to)) c.as_str.ensures.value c.in_ok-name-in-Function.ensures)
