-- Worlds that say the same, with all that they include, say the same, and neither is refused where the other is there.
use Rattle.std.proofs.Common.{◌≡◌, ℕ, true, false, List, [], ◌∷◌, ◌++◌, inl, inr, Some, None, refl, sym, ap, subst, ◌∙◌, map}
use Rattle.std.proofs.lemmas.Option.{slice_get_past}
use Rattle.std.specs.Prelude.{slice_get}
use Rattle.wit_words.specs.declared.source_map.Span.{Span}
use Rattle.wit_order.specs.Order.{Has}
use Rattle.wit_types.specs.declared.interface.TypeDef.{TypeDef}
use Rattle.wit_types.specs.declared.world.World.{World}
use Rattle.wit_types.specs.declared.world.WorldInclude.{WorldInclude}
use Rattle.wit_types.specs.declared.world.WorldItem.{WorldItem}
use Rattle.wit_types.specs.declared.world_key.WorldKey.{WorldKey}
use Rattle.wit_plans.specs.declared.moves.MovedWorld.{MovedWorld}
use Rattle.wit_sides.specs.Known.{are_there}
use Rattle.wit_joined.specs.Joined.{State, with_brought, IsIncludedAt, Includes, includes_none, includes_one, IsMissing, IncludesBreak, AreJoined, SidesClash, own_state, IsJoinedWorld}
use Rattle.wit_push_causes.specs.Said.{type_said, entry_said, world_said}
use Rattle.wit_push_causes.proofs.Lists.{same_at, same_append}
use Rattle.wit_push_causes.proofs.Moving.{SaidMoved, moved_world_said}
use Rattle.wit_push_causes.proofs.Included.{included_same}
use Rattle.wit_push_causes.proofs.Sides.{united_same, clash_same, there_same}

pub record AreAlike (s t : State) : Type 0 where
  pub types : map type_said s.types ≡ map type_said t.types
  pub imports : map entry_said s.imports ≡ map entry_said t.imports
  pub exports : map entry_said s.exports ≡ map entry_said t.exports

module _ (worlds : List World) (id : ℕ) where
  -- from the front on
  abbrev Steps : List WorldInclude → State → State → Type 0
  Steps [] s u = u ≡ s
  Steps (n ∷ ns) s u = (t : State) × IsIncludedAt worlds id n s t × Steps ns t u

  one_step : (ns : List WorldInclude) (n : WorldInclude) (s t u : State) → Steps ns s t → IsIncludedAt worlds id n t u → Steps (ns ++ n ∷ []) s u
  one_step [] n s t u e at = (u, subst (λ (x : State). IsIncludedAt worlds id n x u) e at, refl)
  one_step (m ∷ ns) n s t u (v, first, more) at = (v, first, one_step ns n v t u more at)

  steps : (ns : List WorldInclude) (s u : State) → Includes worlds id ns s u → Steps ns s u
  steps _ s _ (includes_none _) = refl
  steps _ s u (includes_one ns n _ t _ before at) = one_step ns n s t u (steps ns s t before) at

  step_of : (ns : List WorldInclude) (s u : State) (n : WorldInclude) → Steps ns s u → Has ns n → (a : State) × (b : State) × IsIncludedAt worlds id n a b
  step_of [] s u n more h = absurd h
  step_of (m ∷ ns) s u n (t, at, more) (inl here) = (s, t, subst (λ (k : WorldInclude). IsIncludedAt worlds id k s t) (sym here) at)
  step_of (m ∷ ns) s u n (t, at, more) (inr later) = step_of ns t u n more later

module _ (ws vs : List World) (same : map world_said ws ≡ map world_said vs) (id : ℕ) where
  step_same : (n : WorldInclude) (s t a b : State) → AreAlike s t → IsIncludedAt ws id n s a → IsIncludedAt vs id n t b → AreAlike a b
  step_same n s t a b alike (w, x, at, is, e) (v, y, there, also, f) =
      let r = same_at world_said ws vs same n.id w at in
      let one : v ≡ r.0 = let p = there in let q = r.1 in cc in
      let world : world_said w ≡ world_said v = sym r.2 ∙ ap world_said (sym one) in
      let brought = included_same n.names.items n.id id s.types t.types w v x y alike.types world is also in
      subst (λ (z : State). AreAlike z b) (sym e) (subst (AreAlike (with_brought s x)) (sym f) (record {
        types = same_append type_said s.types x.types.items t.types y.types.items alike.types brought.types;
        imports = same_append entry_said s.imports x.imports.items t.imports y.imports.items alike.imports brought.imports;
        exports = same_append entry_said s.exports x.exports.items t.exports y.exports.items alike.exports brought.exports;
      }))

  steps_same : (ns : List WorldInclude) (s t a b : State) → AreAlike s t → Steps ws id ns s a → Steps vs id ns t b → AreAlike a b
  steps_same [] s t a b alike e f = subst (λ (z : State). AreAlike z b) (sym e) (subst (AreAlike s) (sym f) alike)
  steps_same (n ∷ ns) s t a b alike (x, at, more) (y, there, others) = steps_same ns x y a b (step_same n s t x y alike at there) more others

  joined_alike : (ns : List WorldInclude) (s t a b : State) → AreAlike s t → Includes ws id ns s a → Includes vs id ns t b → AreAlike a b
  joined_alike ns s t a b alike x y = steps_same ns s t a b alike (steps ws id ns s a x) (steps vs id ns t b y)

  -- ---- refused

  not_missing : (n : WorldInclude) (a b : State) → IsIncludedAt ws id n a b → IsMissing vs n → ⊥
  not_missing n a b (w, x, at, is, e) (inl past) =
      let r = same_at world_said ws vs same n.id w at in
      let none : slice_get vs n.id ≡ None = slice_get_past vs n.id past in
      let some : slice_get vs n.id ≡ Some r.0 = r.1 in
      absurd cc
  not_missing n a b (w, x, at, is, e) (inr (v, there, out)) =
      let r = same_at world_said ws vs same n.id w at in
      let one : r.0 ≡ v = let p = there in let q = r.1 in cc in
      let yes : are_there n.names.items v ≡ true = ap (are_there n.names.items) (sym one) ∙ there_same n.names.items r.0 w r.2 ∙ is.there in
      let no : are_there n.names.items v ≡ false = out in
      absurd cc

  pub no_includes_break : (ns : List WorldInclude) (s u : State) (at : Span) → Includes ws id ns s u → IncludesBreak vs ns at → ⊥
  no_includes_break ns s u at x b =
      let r = step_of ws id ns s u b.n (steps ws id ns s u x) b.there in
      not_missing b.n r.0 r.1 r.2 b.missing

  module _ (ns : List WorldInclude) (s t : State) (alike : AreAlike s t) (types : List TypeDef) (imports exports : List (WorldKey × WorldItem)) (a : AreJoined ws id ns s types imports exports) where
    pub no_sides_clash : (at : Span) → SidesClash vs id ns t at → ⊥
    no_sides_clash at c =
        let j = joined_alike ns s t a.joined c.joined alike a.includes c.includes in
        elim c.clash as (λ _. ⊥) [
          | inl x ↦ a.imports_are.distinct at (clash_same c.joined.imports a.joined.imports (sym j.imports) at x)
          | inr x ↦ a.exports_are.distinct at (clash_same c.joined.exports a.joined.exports (sym j.exports) at x)
        ]

    pub joined_same : (types2 : List TypeDef) (imports2 exports2 : List (WorldKey × WorldItem)) → AreJoined vs id ns t types2 imports2 exports2
        → (map type_said types ≡ map type_said types2) × (map entry_said imports ≡ map entry_said imports2) × (map entry_said exports ≡ map entry_said exports2)
    joined_same types2 imports2 exports2 b =
        let j = joined_alike ns s t a.joined b.joined alike a.includes b.includes in (
          ap (map type_said) a.types_are ∙ j.types ∙ sym (ap (map type_said) b.types_are),
          united_same a.joined.imports b.joined.imports imports imports2 j.imports a.imports_are.entries b.imports_are.entries,
          united_same a.joined.exports b.joined.exports exports exports2 j.exports a.exports_are.entries b.exports_are.entries,
        )

-- ---- worlds

pub own_alike : (ds es : List TypeDef) (m n : MovedWorld) → map type_said ds ≡ map type_said es → moved_world_said m ≡ moved_world_said n → AreAlike (own_state ds m) (own_state es n)
own_alike ds es m n types same = record { types = types; imports = ap (λ (z : SaidMoved). z.imports) same; exports = ap (λ (z : SaidMoved). z.exports) same }

pub world_joined_same : (ws vs : List World) → map world_said ws ≡ map world_said vs → (id owner : ℕ) (m n : MovedWorld) → moved_world_said m ≡ moved_world_said n
    → (ds es xs ys : List TypeDef) → map type_said ds ≡ map type_said es → (w v : World) → IsJoinedWorld ws id owner m ds xs w → IsJoinedWorld vs id owner n es ys v
    → (map type_said xs ≡ map type_said ys) × (world_said w ≡ world_said v)
world_joined_same ws vs worlds id owner m n same ds es xs ys types w v a b =
    let includes : n.includes.items ≡ m.includes.items = ap (λ (z : SaidMoved). z.includes) (sym same) in
    let sides = subst (λ (l : List WorldInclude). AreJoined vs id l (own_state es n) ys v.imports.entries v.exports.entries) includes b.sides in
    let r = joined_same ws vs worlds id m.includes.items (own_state ds m) (own_state es n) (own_alike ds es m n types same) xs w.imports.entries w.exports.entries a.sides ys v.imports.entries v.exports.entries sides in (
      r.0,
      rw (a.name, a.owner_is, a.docs, a.stability, a.span, b.name, b.owner_is, b.docs, b.stability, b.span, r.1, r.2)
          (ap (λ (z : SaidMoved). record { name = z.name; imports = map entry_said v.imports.entries; exports = map entry_said v.exports.entries; owner = Some owner; docs = z.docs; stability = z.stability; span = z.span }) same),
    )
