-- Names of imports under their module texts, and pairs of texts that are imported twice.
use Rattle.std.proofs.Common.{◌≡◌, ℕ, Bool, true, false, cond, List, [], ◌∷◌, ◌++◌, refl, sym, ap, ◌∙◌, inl, inr}
use Rattle.std.specs.Prelude.{not, ◌||◌, bytes_eq}
use Rattle.std.specs.List.{list_any}
use Rattle.std.proofs.lemmas.Bool.{cases_Bool}
use Rattle.std.proofs.lemmas.List.Folds.{list_any-append}
use Rattle.distinct_names.specs.Names.{is_new}
use Rattle.wit_component.specs.declared.table.Table.{Table}
use Rattle.wit_component.specs.Candidates.{names_in, NameAdded}
use Rattle.wit_component.specs.Cause.{same_pair, RepeatsPair}
use Rattle.wit_component.specs.CoreNames.{root, standard}
use Rattle.wit_component.specs.Linking.{CoreImport}
use Rattle.wit_component.proofs.PlacesLists.{bytes_eq_is, bytes_eq_sym}

-- ---- one import more

pub names_push : (is : List CoreImport) (i : CoreImport) (place : List ℕ) → names_in (is ++ i ∷ []) place ≡ cond (bytes_eq i.place place) (names_in is place ++ i.name ∷ []) (names_in is place)
names_push [] i place = elim (cases_Bool (bytes_eq i.place place)) [ inl t ↦ rw t refl | inr t ↦ rw t refl ]
names_push (j ∷ is) i place =
    let rest = names_push is i place in
    elim (cases_Bool (bytes_eq j.place place)) [
      | inl t ↦ rw t (ap (λ ns. j.name ∷ ns) rest ∙ elim (cases_Bool (bytes_eq i.place place)) [ inl u ↦ rw u refl | inr u ↦ rw u refl ])
      | inr t ↦ rw t rest
    ]

-- a pair that is there is among the names under its module text
pub pair_named : (is : List CoreImport) (i : CoreImport) → list_any (λ j. same_pair j i) is ≡ list_any (bytes_eq i.name) (names_in is i.place)
pair_named [] i = refl
pair_named (j ∷ is) i =
    let rest = pair_named is i in
    elim (cases_Bool (bytes_eq j.place i.place)) [
      | inl t ↦ rw (t, bytes_eq_sym j.name i.name) (ap (λ b. bytes_eq i.name j.name || b) rest)
      | inr t ↦ rw t rest
    ]

-- ---- repeats

module _ (i : CoreImport) where
  pub repeats_at : (is more : List CoreImport) → list_any (λ j. same_pair j i) is ≡ true → RepeatsPair (is ++ i ∷ more)
  repeats_at [] more e = absurd cc
  repeats_at (j ∷ is) more e = elim (cases_Bool (same_pair j i)) [
    | inl t ↦ inl (list_any-append (same_pair j) is (i ∷ more) ∙ ap (λ b. list_any (same_pair j) is || (b || list_any (same_pair j) more)) t ∙ or_true (list_any (same_pair j) is))
    | inr t ↦ inr (repeats_at is more (rw t at e))
  ]
    where
      or_true : (b : Bool) → (b || true) ≡ true
      or_true true = refl
      or_true false = refl

  or_none : (a b : Bool) → (a || b) ≡ false → (a ≡ false) × (b ≡ false)
  or_none true b e = absurd cc
  or_none false b e = (refl, e)

  or_left : (a b : Bool) → b ≡ false → (a || (b || false)) ≡ true → a ≡ true
  or_left true b f e = refl
  or_left false true f e = absurd cc
  or_left false false f e = absurd cc

  pub repeats_not : (is : List CoreImport) → (RepeatsPair is → ⊥) → list_any (λ j. same_pair j i) is ≡ false → RepeatsPair (is ++ i ∷ []) → ⊥
  repeats_not [] distinct none (inl e) = absurd cc
  repeats_not [] distinct none (inr h) = h
  repeats_not (j ∷ is) distinct none (inl e) =
      distinct (inl (or_left (list_any (same_pair j) is) (same_pair j i) (or_none (same_pair j i) (list_any (λ k. same_pair k i) is) none).0 (sym (list_any-append (same_pair j) is (i ∷ [])) ∙ e)))
  repeats_not (j ∷ is) distinct none (inr h) = repeats_not is (λ r. distinct (inr r)) (or_none (same_pair j i) (list_any (λ k. same_pair k i) is) none).1 h

-- ---- what the table has of the imports so far

module _ (is : List CoreImport) (i : CoreImport) (old new : Table) (legacy : old.legacy ≡ names_in is root) (of_standard : old.standard ≡ names_in is standard) where
  under : (s r : Bool) → bytes_eq i.place standard ≡ s → bytes_eq i.place root ≡ r → (s || r) ≡ true → cond s old.standard old.legacy ≡ names_in is i.place
  under true r e f h = of_standard ∙ ap (names_in is) (sym (bytes_eq_is i.place standard e))
  under false true e f h = legacy ∙ ap (names_in is) (sym (bytes_eq_is i.place root f))
  under false false e f h = absurd cc

  not_not : (b c : Bool) → not b ≡ c → b ≡ not c
  not_not true c e = ap not e
  not_not false c e = ap not e

  -- whether the pair is there
  pub pair_there : (bytes_eq i.place standard || bytes_eq i.place root) ≡ true → (fresh : Bool) → is_new (cond (bytes_eq i.place standard) old.standard old.legacy) i.name ≡ fresh → list_any (λ j. same_pair j i) is ≡ not fresh
  pair_there known fresh e =
      pair_named is i ∙ not_not (list_any (bytes_eq i.name) (names_in is i.place)) fresh (ap (λ ns. is_new ns i.name) (sym (under (bytes_eq i.place standard) (bytes_eq i.place root) refl refl known)) ∙ e)

  pub legacy_more : NameAdded old new i.place i.name → new.legacy ≡ names_in (is ++ i ∷ []) root
  legacy_more h = h.legacy ∙ ap (λ ns. cond (bytes_eq i.place root) (ns ++ i.name ∷ []) ns) legacy ∙ sym (names_push is i root)

  pub standard_more : NameAdded old new i.place i.name → new.standard ≡ names_in (is ++ i ∷ []) standard
  standard_more h = h.standard ∙ ap (λ ns. cond (bytes_eq i.place standard) (ns ++ i.name ∷ []) ns) of_standard ∙ sym (names_push is i standard)

  pub distinct_more : (RepeatsPair is → ⊥) → NameAdded old new i.place i.name → RepeatsPair (is ++ i ∷ []) → ⊥
  distinct_more distinct h = repeats_not i is distinct (pair_there h.known true h.fresh)
