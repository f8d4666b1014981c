-- Each world imports in the end what it and its exports depend on.
use Rattle.std.proofs.Common.{◌≡◌, ℕ, ◌<◌, ◌≤◌, inl, inr, arith, length, get_or}
use Rattle.std.proofs.lemmas.Option.{slice_get_cases, slice_get-get_or}
use Rattle.wit_resolve_errors.specs.Passed.wit_graph-Graph.{AreWhole, IsElaborated}
use Rattle.wit_resolve_errors.specs.Passed.wit_graph-declared-tables-Tables.{Tables}

pub elaborated_at : (t : Tables) (i : ℕ) → AreWhole t → i < length t.worlds.elaborated → IsElaborated t i
elaborated_at t i whole l =
    let many : length t.worlds.elaborated ≡ length t.worlds.listed = whole.whole.sound.so_many in
    elim ((slice_get_cases t.worlds.elaborated i).1) as (λ _. IsElaborated t i) [
      | inl found ↦
          let listed = slice_get-get_or t.worlds.listed i found.0 (omega (arith, l, many)) in
          (get_or t.worlds.listed i found.0, found.0, listed, found.2, whole.whole.elaborated i (get_or t.worlds.listed i found.0) found.0 listed found.2)
      | inr none ↦ absurd (let past : length t.worlds.elaborated ≤ i = none.0 in omega (arith, l, past))
    ]
