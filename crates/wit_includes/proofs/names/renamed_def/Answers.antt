use Rattle.std.proofs.Common.{◌≡◌, ℕ, List, true, sym, subst, ◌∙◌}
use Rattle.std.specs.Prelude.{string_bytes}
use Rattle.wit_sides.specs.Renames.{IsRenamed}
use Rattle.wit_includes.specs.Included.{is_of_world}
use Rattle.wit_includes.proofs.names.renamed_def.Goals as goal

pub returns-in_ok-name-in-Some : goal.returns-in_ok-name-in-Some
returns-in_ok-name-in-Some c =
    let yes : is_of_world c.args.world c.args.def.owner ≡ true = sym c.is_of_world.ensures ∙ c.if-not-is_of_world.false in
    let to = c.in_ok-name-in-Some.name in
    let renamed = subst (λ (x : List ℕ). IsRenamed c.args.renames.now x (string_bytes to)) c.as_str.ensures.value c.in_ok-name-in-Some.ensures in
    rw (yes, c.in-Some.is) (to, renamed, c.with_name.ensures)
