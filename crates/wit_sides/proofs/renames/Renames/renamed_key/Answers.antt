use Rattle.std.proofs.Common.{ℕ, List, refl, subst}
use Rattle.std.specs.Prelude.{string_bytes}
use Rattle.wit_sides.specs.Renames.{IsRenamed}
use Rattle.wit_sides.proofs.renames.Renames.renamed_key.Goals as goal

pub returns-in_ok-renamed-in-Name : goal.returns-in_ok-renamed-in-Name
returns-in_ok-renamed-in-Name c =
    let to = c.in_ok-renamed-in-Name.field-0 in
    rw c.in-Name.is (to, refl, subst (λ (n : List ℕ). IsRenamed c.args.self.now n (string_bytes to)) c.as_str.ensures.value c.in_ok-renamed-in-Name.ensures)
