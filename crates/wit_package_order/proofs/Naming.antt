-- Packages by their names, one more at a time.
use Rattle.std.proofs.Common.{◌≤◌, ◌≡◌, ℕ, ◌+◌, ◌<◌, suc, Bool, false, List, [], ◌∷◌, ◌++◌, Option, None, Some, is_some, take, refl, sym, ap, ◌∙◌, arith, length, get_or, true, inl, inr}
use Rattle.std.proofs.lemmas.List.{take_more, length-take-le, map_push}
use Rattle.std.proofs.lemmas.Option.{same_Some, slice_get-get_or, slice_get_within}
use Rattle.std.proofs.Math.Nat.{eq-or-lt_of_le}
use Rattle.std.specs.Borrow.{Bor}
use Rattle.std.specs.Map.{lookup}
use Rattle.std.specs.Prelude.{if◌then◌else◌, slice_get}
use Rattle.indexmap.specs.IndexMap.{insert_entry}
use Rattle.indexmap.proofs.MapLemmas.{insert_entry-absent, absent_from_lookup}
use Rattle.wit_words.specs.declared.source_map.Span.{Span}
use Rattle.wit_types.specs.declared.«package».PackageName.{PackageName}
use Rattle.wit_types.specs.declared.«package».UnresolvedPackage.{UnresolvedPackage}
use Rattle.wit_package_order.specs.Packages.{named_from, named, ComesTwice}
use Rattle.wit_package_order.specs.Names.{names, AreNew}

-- a name is found by what it is, however it is lent
pub lookup_names : (test : PackageName → Bool) (es : List (Bor PackageName × ℕ)) → lookup test (names es) ≡ lookup (λ (k : Bor PackageName). test k.now) es
lookup_names test [] = refl
lookup_names test (e ∷ es) = ap (λ (o : Option ℕ). if test e.0.now then Some e.1 else o) (lookup_names test es)

named_more : (n : ℕ) (ps : List UnresolvedPackage) (p : UnresolvedPackage) → named_from n (ps ++ p ∷ []) ≡ named_from n ps ++ (p.name, n + length ps) ∷ []
named_more n [] p = ap (λ (m : ℕ). (p.name, m) ∷ []) (let e : n ≡ n + 0 = omega arith in e)
named_more n (q ∷ ps) p =
    ap (λ (es : List (PackageName × ℕ)). (q.name, n) ∷ es)
    (named_more (suc n) ps p ∙ ap (λ (m : ℕ). named_from (suc n) ps ++ (p.name, m) ∷ []) (let e : suc n + length ps ≡ n + suc (length ps) = omega arith in e))

is_none : (o : Option ℕ) → is_some o ≡ false → o ≡ None
is_none None e = refl
is_none (Some n) e = absurd cc

-- a new name with its place comes last
pub next_named : (eq : PackageName → PackageName → Bool) (es new : List (Bor PackageName × ℕ)) (k : Bor PackageName) (ps : List UnresolvedPackage) (i : ℕ) (p : UnresolvedPackage)
    → i < length ps → p ≡ get_or ps i p → k.now ≡ p.name → is_some (lookup (λ (x : Bor PackageName). eq k.now x.now) es) ≡ false
    → new ≡ insert_entry (λ (x y : Bor PackageName). eq x.now y.now) es k i → names es ≡ named (take i ps) → names new ≡ named (take (i + 1) ps)
next_named eq es new k ps i p within read name fresh grown are =
    let added : new ≡ es ++ (k, i) ∷ [] = grown ∙ insert_entry-absent (λ (x y : Bor PackageName). eq x.now y.now) k i es (absent_from_lookup (λ (y : Bor PackageName). eq k.now y.now) es (is_none (lookup (λ (x : Bor PackageName). eq k.now x.now) es) fresh)) in
    let size : length (take i ps) ≡ i = length-take-le i ps (omega arith) in
    let more : take (i + 1) ps ≡ take i ps ++ p ∷ [] = take_more ps i p within ∙ ap (λ (q : UnresolvedPackage). take i ps ++ q ∷ []) (sym read) in
    ap names added ∙ map_push (λ (e : Bor PackageName × ℕ). (e.0.now, e.1)) es (k, i)
    ∙ ap (λ (xs : List (PackageName × ℕ)). xs ++ (k.now, i) ∷ []) are
    ∙ ap (λ (n : PackageName). named (take i ps) ++ (n, i) ∷ []) name
    ∙ ap (λ (m : ℕ). named (take i ps) ++ (p.name, m) ∷ []) (let e : i ≡ 0 + length (take i ps) = omega (arith, size) in e)
    ∙ sym (named_more 0 (take i ps) p) ∙ ap named (sym more)

pub next_new : (eq : PackageName → PackageName → Bool) (ps : List UnresolvedPackage) (i : ℕ) (p : UnresolvedPackage) → i < length ps → p ≡ get_or ps i p
    → is_some (lookup (eq p.name) (named (take i ps))) ≡ false → AreNew eq ps i → AreNew eq ps (i + 1)
next_new eq ps i p within read fresh new k q less there =
    let upto : k ≤ i = omega (arith, less) in
    elim (eq-or-lt_of_le upto) as (λ _. is_some (lookup (eq q.name) (named (take k ps))) ≡ false) [
      | inl here ↦
          let at : slice_get ps i ≡ Some q = ap (slice_get ps) (sym here) ∙ there in
          let same : p ≡ q = same_Some p q (ap Some read ∙ sym (slice_get-get_or ps i p within) ∙ at) in
          ap (λ (n : ℕ). is_some (lookup (eq q.name) (named (take n ps)))) here ∙ ap (λ (r : UnresolvedPackage). is_some (lookup (eq r.name) (named (take i ps)))) (sym same) ∙ fresh
      | inr before ↦ new k q before there
    ]

pub are_distinct : (eq : PackageName → PackageName → Bool) (ps : List UnresolvedPackage) → AreNew eq ps (length ps) → (at : Span) → ComesTwice eq ps at → ⊥
are_distinct eq ps new at twice =
    let fresh = new twice.place twice.again (slice_get_within ps twice.place twice.again twice.there) twice.there in
    let differ : true ≡ false = sym twice.before ∙ fresh in
    absurd cc
