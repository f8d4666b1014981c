-- Exports by their names.
use Rattle.std.proofs.Common.{◌≡◌, ℕ, ◌+◌, ◌<◌, ◌≤◌, true, List, [], ◌∷◌, ◌++◌, length, Option, Some, None, Result, Ok, Err, inl, inr, refl, sym, subst, ap, ◌∙◌, arith}
use Rattle.std.proofs.lemmas.List.{length-map}
use Rattle.std.proofs.lemmas.Option.{slice_get-get_or, slice_get-map}
use Rattle.std.specs.Prelude.{get_or, map, option_map, IfOk, IfErr}
use Rattle.std.specs.Cow.{cow_str_bytes}
use Rattle.std.specs.Cmp.Lexicographic.{bytes_decides}
use Rattle.std.specs.declared.borrow.CowStr.TheVariants.{Borrowed}
use Rattle.wasm_types.specs.declared.entries.Export.{Export}
use Rattle.wasm_types.specs.Entries.{ExportValue, export_value}
use Rattle.wit_types.specs.declared.mangling.Mangling.{Mangling}
use Rattle.wit_types.specs.declared.mangling.Mangling.TheVariants.{Legacy, Standard32}
use Rattle.wit_core_tables.specs.Tables.{IsTableOf}
use Rattle.wit_core_tables.specs.declared.table.Meaning.{Meaning}
use Rattle.wit_core_tables.specs.declared.table.Meaning.TheVariants.{One, Ambiguous}
use Rattle.wit_core_names.specs.Exports.{IsExportName}
use Rattle.wit_core_names.specs.Items.{CoreExport}
use Rattle.wit_core_items.specs.Growing.{Name, Reads, name_eq}
use Rattle.wit_core_items.specs.World.{IsReadAs, IsExportedAs}
use Rattle.wit_core_items.proofs.Growing.{reads_first, reads_next, reads_all, grows_one, Upto}
use Rattle.wit_core_items.proofs.Naming.{one_export_name}
use Rattle.core_links.specs.Names.{Names, counts_legacy, IsExport}
use Rattle.core_links.specs.Exports.{HasName, MeansTwo, IsAt, IsFoundAs, IsUnclear, IsUnclearCause, IsLegacyName, IsExportOf, IsExportCause, IsPlaceOf, IsOneOf}
use Rattle.core_links.specs.declared.fault.LinkFault.{LinkFault}

-- ---- the places of exports by their names

abbrev pub Has : ExportValue → Name → Type 0
Has e q = e.name ≡ cow_str_bytes q

abbrev pub ReadsFirst : List ExportValue → ℕ → List (Name × Meaning) → Type 0
ReadsFirst es n table = Reads name_eq (Upto name_eq es Has n) table

pub reads_none : (es : List ExportValue) (table : List (Name × Meaning)) → IsTableOf name_eq [] table → ReadsFirst es 0 table
reads_none es table is = reads_first name_eq es Has table is

pub reads_more : (xs : List Export) (n : ℕ) (d : Export) → n < length xs → (old new : List (Name × Meaning)) → ReadsFirst (map export_value xs) n old
    → ((named : List (Name × ℕ)) → IsTableOf name_eq named old → IsTableOf name_eq (named ++ (Borrowed (get_or xs n d).name, n) ∷ []) new) → ReadsFirst (map export_value xs) (n + 1) new
reads_more xs n d lt old new so_far added =
    reads_next name_eq (map export_value xs) Has n (export_value (get_or xs n d)) old new
    (slice_get-map export_value xs n ∙ ap (option_map export_value) (slice_get-get_or xs n d lt)) so_far
    (grows_one name_eq (λ (q : Name) (i : ℕ). (i ≡ n) × Has (export_value (get_or xs n d)) q) old new (Borrowed (get_or xs n d).name) n added
    (λ q i. (
      λ h. (sym h.1, sym ((bytes_decides (cow_str_bytes q) (get_or xs n d).name.now).0 h.0)),
      λ h. ((bytes_decides (cow_str_bytes q) (get_or xs n d).name.now).1 (sym h.1), sym h.0),
    )))

pub reads_whole : (xs : List Export) (n : ℕ) (table : List (Name × Meaning)) → length xs ≤ n → ReadsFirst (map export_value xs) n table → Reads name_eq (λ (q : Name) (i : ℕ). HasName (map export_value xs) (cow_str_bytes q) i) table
reads_whole xs n table past so_far =
    let m : length (map export_value xs) ≡ length xs = length-map xs export_value in
    reads_all name_eq (map export_value xs) Has n table (omega (arith, m, past)) so_far

-- ---- by a name

module _ (n : Names) (es : List ExportValue) where
  two_here : (name : List ℕ) (e : ExportValue) → e.name ≡ name → MeansTwo n name → MeansTwo n e.name
  two_here name e is two = subst (MeansTwo n) (sym is) two

  two_there : (name : List ℕ) (e : ExportValue) → e.name ≡ name → MeansTwo n e.name → MeansTwo n name
  two_there name e is two = subst (MeansTwo n) is two

  abbrev Found : List ℕ → Result (Option ℕ) LinkFault → Type 0
  Found name r = IfOk r (IsFoundAs n es (λ text. text ≡ name)) × IfErr r (IsUnclearCause n es (λ text. text ≡ name))

  at_place : (name : List ℕ) (p : ℕ) (read : IsReadAs (HasName es name) (Some (One p))) → (MeansTwo n name → ⊥) → IsAt n es (λ text. text ≡ name) p
  at_place name p read clear =
      let there = (read.one p refl).0 in
      record { one = there.0; there = there.1; named = there.2; only = λ k e at is. (read.one p refl).1 k (e, at, is); one_meaning = λ two. clear (two_there name there.0 there.2 two) }

  pub place_found : (name : List ℕ) (found meaning : Option Meaning) (r : Result (Option ℕ) LinkFault) → IsReadAs (HasName es name) found → IsReadAs (IsExport n name) meaning → IsPlaceOf found meaning r → Found name r
  place_found name None m r read means is = subst (Found name) (sym is) (λ k e at h. read.none refl k (e, at, h), tt)
  place_found name (Some Ambiguous) m r read means is =
      let two = read.several refl in
      subst (Found name) (sym is)
      (tt, inl (refl, inl (record { first = two.0; second = two.1; apart = two.4; one = two.2.0; other = two.3.0; one_there = two.2.1; other_there = two.3.1; one_named = two.2.2; other_named = two.3.2 })))
  place_found name (Some (One p)) (Some Ambiguous) r read means is =
      let there = (read.one p refl).0 in
      subst (Found name) (sym is)
      (tt, inl (refl, inr (record { place = p; one = there.0; there = there.1; named = there.2; two = two_here name there.0 there.2 (means.several refl) })))
  place_found name (Some (One p)) (Some (One i)) r read means is =
      subst (Found name) (sym is) (at_place name p read (λ two. two.4 ((means.one i refl).1 two.0 two.2 ∙ sym ((means.one i refl).1 two.1 two.3))), tt)
  place_found name (Some (One p)) None r read means is = subst (Found name) (sym is) (at_place name p read (λ two. means.none refl two.0 two.2), tt)

  -- ---- names of one kind, and of another

  module _ (Is Js : List ℕ → Type 0) (onward : (text : List ℕ) → Is text → Js text) where
    pub unclear_more : IsUnclear n es Is → IsUnclear n es Js
    unclear_more (inl two) =
        inl (record { first = two.first; second = two.second; apart = two.apart; one = two.one; other = two.other; one_there = two.one_there; other_there = two.other_there; one_named = onward two.one.name two.one_named; other_named = onward two.other.name two.other_named })
    unclear_more (inr has) = inr (record { place = has.place; one = has.one; there = has.there; named = onward has.one.name has.named; two = has.two })

    cause_more : (e : LinkFault) → IsUnclearCause n es Is e → IsUnclearCause n es Js e
    cause_more e (inl h) = inl (h.0, unclear_more h.1)
    cause_more e (inr h) = inr h

    pub err_more : (r : Result (Option ℕ) LinkFault) → IfErr r (IsUnclearCause n es Is) → IfErr r (IsUnclearCause n es Js)
    err_more (Ok o) h = tt
    err_more (Err e) h = cause_more e h

    module _ (back : (text : List ℕ) → Js text → Is text) where
      found_same : (o : Option ℕ) → IsFoundAs n es Is o → IsFoundAs n es Js o
      found_same None h = λ k e at is. h k e at (back e.name is)
      found_same (Some p) h = record { one = h.one; there = h.there; named = onward h.one.name h.named; only = λ k e at is. h.only k e at (back e.name is); one_meaning = h.one_meaning }

      pub ok_same : (r : Result (Option ℕ) LinkFault) → IfOk r (IsFoundAs n es Is) → IfOk r (IsFoundAs n es Js)
      ok_same (Ok o) h = found_same o h
      ok_same (Err e) h = tt

  -- ---- by what it stands for

  module _ (x : CoreExport) where
    abbrev Standard : List ℕ → Type 0
    Standard text = IsExportName Standard32 n.known x text

    abbrev Older : List ℕ → Type 0
    Older text = IsLegacyName n x text

    abbrev Either : List ℕ → Type 0
    Either text = IsExportedAs n.known (counts_legacy n) x text

    pub spelled_ok : (m : Mangling) (name : List ℕ) (r : Result (Option ℕ) LinkFault) → IsExportName m n.known x name → IfOk r (IsFoundAs n es (λ text. text ≡ name)) → IfOk r (IsFoundAs n es (IsExportName m n.known x))
    spelled_ok m name r is =
        ok_same (λ text. text ≡ name) (IsExportName m n.known x) (λ text e. subst (IsExportName m n.known x) (sym e) is) (λ text its. one_export_name n.known m x text name its is) r

    pub spelled_err : (m : Mangling) (name : List ℕ) (r : Result (Option ℕ) LinkFault) → IsExportName m n.known x name → IfErr r (IsUnclearCause n es (λ text. text ≡ name)) → IfErr r (IsUnclearCause n es (IsExportName m n.known x))
    spelled_err m name r is = err_more (λ text. text ≡ name) (IsExportName m n.known x) (λ text e. subst (IsExportName m n.known x) (sym e) is) r

    pub legacy_ok : (r : Result (Option ℕ) LinkFault) → counts_legacy n ≡ true → IfOk r (IsFoundAs n es (IsExportName Legacy n.known x)) → IfOk r (IsFoundAs n es Older)
    legacy_ok r counts = ok_same (IsExportName Legacy n.known x) Older (λ text h. (counts, h)) (λ text h. h.1) r

    pub legacy_err : (r : Result (Option ℕ) LinkFault) → counts_legacy n ≡ true → IfErr r (IsUnclearCause n es (IsExportName Legacy n.known x)) → IfErr r (IsUnclearCause n es Older)
    legacy_err r counts = err_more (IsExportName Legacy n.known x) Older (λ text h. (counts, h)) r

    -- why there is no place in a spelling is why there is none
    of_unclear : (Is : List ℕ → Type 0) → ((text : List ℕ) → Is text → Either text) → (e : LinkFault) → IsUnclearCause n es Is e → IsExportCause n es x e
    of_unclear Is onward e (inl h) = subst (IsExportCause n es x) (sym h.0) (unclear_more Is Either onward h.1)
    of_unclear Is onward e (inr h) = subst (IsExportCause n es x) (sym h) tt

    pub standard_cause : (e : LinkFault) → IsUnclearCause n es Standard e → IsExportCause n es x e
    standard_cause = of_unclear Standard (λ text h. inl h)

    pub older_cause : (e : LinkFault) → IsUnclearCause n es Older e → IsExportCause n es x e
    older_cause = of_unclear Older (λ text h. inr h)

    abbrev Placed : Result ℕ LinkFault → Type 0
    Placed r = IfOk r (IsExportOf n es x) × IfErr r (IsExportCause n es x)

    pub one_placed : (a b : Option ℕ) (r : Result ℕ LinkFault) → IsFoundAs n es Standard a → IsFoundAs n es Older b → IsOneOf a b r → Placed r
    one_placed None None r f g is = subst Placed (sym is) (tt, λ k e at h. elim h as (λ _. ⊥) [ inl s ↦ f k e at s | inr o ↦ g k e at o ])
    one_placed (Some p) None r f g is =
        subst Placed (sym is)
        (record { one = f.one; there = f.there; named = inl f.named; only = λ k e at h. elim h as (λ _. k ≡ p) [ inl s ↦ f.only k e at s | inr o ↦ absurd (g k e at o) ]; one_meaning = f.one_meaning }, tt)
    one_placed None (Some q) r f g is =
        subst Placed (sym is)
        (record { one = g.one; there = g.there; named = inr g.named; only = λ k e at h. elim h as (λ _. k ≡ q) [ inl s ↦ absurd (f k e at s) | inr o ↦ g.only k e at o ]; one_meaning = g.one_meaning }, tt)
    one_placed (Some p) (Some q) r f g (inl h) =
        subst Placed (sym h.1)
        (record { one = f.one; there = f.there; named = inl f.named; only = λ k e at i. elim i as (λ _. k ≡ p) [ inl s ↦ f.only k e at s | inr o ↦ g.only k e at o ∙ sym h.0 ]; one_meaning = f.one_meaning }, tt)
    one_placed (Some p) (Some q) r f g (inr h) =
        subst Placed (sym h.1)
        (tt, inl (record { first = p; second = q; apart = h.0; one = f.one; other = g.one; one_there = f.there; other_there = g.there; one_named = inl f.named; other_named = inr g.named }))
