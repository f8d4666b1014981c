use Rattle.std.proofs.Common.{List, ℕ, subst, sym}
use Rattle.std.specs.Prelude.{string_bytes}
use Rattle.wit_types.specs.declared.function.FunctionKind.{FunctionKind}
use Rattle.wit_types.specs.Function.{IsItemName, IsBehindMark}
use Rattle.wit_types.proofs.function.Function.item_name.Goals as goal

pub returns-in-Constructor : goal.returns-in-Constructor
returns-in-Constructor c =
    subst (λ (k : FunctionKind). IsItemName k (string_bytes c.args.self.now.name) c.behind_mark.result.now) (sym c.in-Constructor.is)
    (subst (λ (n : List ℕ). IsBehindMark n c.behind_mark.result.now) c.as_str-name.ensures.value c.behind_mark.ensures)
