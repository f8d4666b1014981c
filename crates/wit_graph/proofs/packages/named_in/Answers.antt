use Rattle.std.proofs.Common.{◌≡◌, ℕ, ◌<◌, inl, inr, List, [], length, sym, subst, ap, ◌∙◌, arith}
use Rattle.wit_order.specs.Order.{Has}
use Rattle.wit_order.specs.Places.{Rows, Needs}
use Rattle.wit_graph.specs.Graph.{UsesTypesOf, IsNamedIn, in_interface, in_world}
use Rattle.wit_graph.specs.Packages.{IsNamedByWorld}
use Rattle.wit_graph.specs.declared.tables.Tables.{Tables}
use Rattle.wit_graph.proofs.Closing.{row_has}
use Rattle.wit_graph.proofs.Depending.{ids_has, has_id}
use Rattle.wit_graph.proofs.Keeping.{rows_long, row_of}
use Rattle.wit_graph.proofs.packages.named_in.Goals as goal

pub add_uses-requires : goal.add_uses-requires
add_uses-requires c = λ i h.
    let t = c.args.tables.now in
    let e = ids_has c.args.package.now.interfaces.entries i (subst (λ (l : List ℕ). Has l i) (c.as_slice.ensures.value ∙ c.in_ok-interfaces.ensures) h) in
    let l : e.0.1 < length t.interfaces.all = (c.requires.whole.packages_are c.args.package.now c.requires.there).interfaces_are e.0 e.1 in
    let long : length t.interfaces.uses ≡ length t.interfaces.all = rows_long t.types t.interfaces.all t.interfaces.uses c.requires.whole.whole.rows in
    let uses : length c.uses.result.now ≡ length t.interfaces.uses = ap (λ (rs : Rows). length rs) c.uses.ensures in
    let same : i ≡ e.0.1 = e.2 in
    omega (arith, l, long, uses, same)

pub add_worlds-requires-clause-there : goal.add_worlds-requires-clause-there
add_worlds-requires-clause-there c = λ i h.
    let t = c.args.tables.now in
    let e = ids_has c.args.package.now.worlds.entries i (subst (λ (l : List ℕ). Has l i) (c.as_slice-2.ensures.value ∙ c.in_ok-worlds.ensures) h) in
    subst (λ (n : ℕ). n < length t.worlds.listed) (sym e.2) ((c.requires.whole.packages_are c.args.package.now c.requires.there).worlds_are e.0 e.1)

pub returns : goal.returns
returns c = λ j.
    let t : Tables = c.args.tables.now in
    let p = c.args.package.now in
    let rows = c.requires.whole.whole.rows in
    let interfaces = c.as_slice.ensures.value ∙ c.in_ok-interfaces.ensures in
    let worlds = c.as_slice-2.ensures.value ∙ c.in_ok-worlds.ensures in
    let uses = c.in_ok-add_uses.ensures in
    let more = c.in_ok-add_worlds.ensures in (
      (λ h. elim (more.only j h) as (λ _. IsNamedIn t p j) [
        | inl was ↦ elim (uses.only j was) as (λ _. IsNamedIn t p j) [
          | inl none ↦ absurd (let nothing : Has [] j = subst (λ (l : List ℕ). Has l j) c.new-named.ensures.empty none in nothing)
          | inr used ↦
              let e = ids_has p.interfaces.entries used.0 (subst (λ (l : List ℕ). Has l used.0) interfaces used.1) in
              let row = row_of t.types t.interfaces.all t.interfaces.uses rows used.0 j (subst (λ (rs : Rows). Needs rs used.0 j) c.uses.ensures used.2) in
              in_interface e.0 e.1 (subst (λ (i : ℕ). UsesTypesOf t i j) e.2 row)
        ]
        | inr named ↦
            let e = ids_has p.worlds.entries named.0 (subst (λ (l : List ℕ). Has l named.0) worlds named.1) in
            let w = subst (λ (i : ℕ). IsNamedByWorld t i j) e.2 named.2 in
            in_world e.0 e.1 w.0 w.1 w.2
      ]),
      named_has j,
    )
  where
    named_has : (j : ℕ) → IsNamedIn c.args.tables.now c.args.package.now j → Has c.add_worlds.new.set.keys j
    named_has j (in_interface e h used) =
        let t : Tables = c.args.tables.now in
        let need : Needs t.interfaces.uses e.1 j = row_has t.types t.interfaces.all t.interfaces.uses c.requires.whole.whole.rows e.1 j used.0 used.1 used.2 in
        let there = subst (λ (l : List ℕ). Has l e.1) (sym (c.as_slice.ensures.value ∙ c.in_ok-interfaces.ensures)) (has_id c.args.package.now.interfaces.entries e h) in
        c.in_ok-add_worlds.ensures.was j (c.in_ok-add_uses.ensures.new e.1 j there (subst (λ (rs : Rows). Needs rs e.1 j) (sym c.uses.ensures) need))
    named_has j (in_world e h w at named) =
        let there = subst (λ (l : List ℕ). Has l e.1) (sym (c.as_slice-2.ensures.value ∙ c.in_ok-worlds.ensures)) (has_id c.args.package.now.worlds.entries e h) in
        c.in_ok-add_worlds.ensures.new e.1 j there (w, at, named)
