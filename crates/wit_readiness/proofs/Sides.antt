-- What stands on one side of a world is apart by its keys.
use Rattle.std.proofs.Common.{◌≡◌, ℕ, zero, suc, ◌<◌, ◌+◌, Bool, true, false, ◌||◌, List, [], ◌∷◌, ◌++◌, ◌⊎◌, inl, inr, length, Some, map, take, refl, sym, subst, ap, ◌∙◌, arith}
use Rattle.std.proofs.lemmas.Option.{same_Some, slice_get-map}
use Rattle.std.proofs.lemmas.Bool.{cases_lt}
use Rattle.std.proofs.lemmas.Slice.Eq.{bytes_eq-Decides}
use Rattle.std.specs.Prelude.{slice_get, flat_map, option_map, bytes_eq}
use Rattle.std.specs.List.{list_any}
use Rattle.wit_words.specs.Slice.{Slice}
use Rattle.wit_foreign.specs.Passed.wit_scopes-declared-worlds-Side.{Side}
use Rattle.wit_foreign.specs.Passed.wit_scopes-declared-worlds-Side-TheVariants.{Import, Export}
use Rattle.wit_foreign.specs.Passed.wit_scopes-Members.{MemberKind, MemberTree, used, defined, function, method, static, constructor}
use Rattle.wit_foreign.specs.Passed.wit_scopes-Scopes as scope
use Rattle.wit_foreign.specs.Passed.wit_scopes-Scopes.{ExternKind, ListedTree, WorldMemberTree}
use Rattle.wit_foreign.specs.Passed.wit_rules-declared-fault-PackageRule-TheVariants.{DuplicateName}
use Rattle.wit_foreign.specs.Passed.wit_rules-Labels.{member_label, target_text, on_side, extern_labels, extern_paths, side_labels, side_paths}
use Rattle.wit_foreign.specs.Passed.wit_rules-Breaks.{IsKept, PathsBreak}
use Rattle.wit_foreign.specs.Passed.wit_rules-Facts as fact
use Rattle.wit_foreign.specs.Passed.wit_rules-Facts.{SideBreaks, WorldBreaks}
use Rattle.wit_foreign.proofs.Passed.wit_rules-Apart.{givers_apart}
use Rattle.wit_resolved_scopes.specs.Passed.wit_orders-Needs.{world_member_type, world_types}
use Rattle.wit_foreign.specs.Passed.wit_arena-Meaning.{Has}
use Rattle.wit_foreign.specs.Passed.wit_arena-Standing.{IsOfType}
use Rattle.wit_foreign.proofs.Passed.wit_arena-Lists.{has_none}
use Rattle.wit_resolved_scopes.specs.Passed.wit_functions-Signature.{IsFunction}
use Rattle.wit_resolved_scopes.specs.Each.{AreApartBy}
use Rattle.wit_resolved_scopes.specs.Scope.{function_of}
use Rattle.wit_resolved_scopes.specs.Texts.{at_side, side_member, side_members, plain, path, extern_key, key_text}
use Rattle.wit_readiness.proofs.Flat.{AtMostOne, has_one, in_flat, flat_apart}
use Rattle.wit_readiness.proofs.Named.{type_label, type_given, function_one, function_given}
use Rattle.wit_readiness.proofs.Parts.{side_keeps}

-- ---- paths that keep their rule

or_true : (b : Bool) → (b || true) ≡ true
or_true true = refl
or_true false = refl

any_taken : {X : Type 0} (f : X → Bool) (xs : List X) (i j : ℕ) (x : X) → i < j → slice_get xs i ≡ Some x → f x ≡ true → list_any f (take j xs) ≡ true
any_taken f [] i j x less there h = absurd cc
any_taken f (y ∷ xs) i zero x less there h = absurd (omega (arith, less))
any_taken f (y ∷ xs) zero (suc j) x less there h = ap (λ b. b || list_any f (take j xs)) (ap f (same_Some y x there) ∙ h)
any_taken f (y ∷ xs) (suc i) (suc j) x less there h = ap (λ b. f y || b) (any_taken f xs i j x (omega (arith, less)) there h) ∙ or_true (f y)

-- a path that stands behind one of the same text breaks the rule
again : (paths : List Slice) → IsKept (PathsBreak paths) → (i j : ℕ) (a b : Slice) → slice_get paths i ≡ Some a → slice_get paths j ≡ Some b → a.text ≡ b.text → i < j → ⊥
again paths kept i j a b at_i at_j same less =
    let keys : List (List ℕ) = map (λ p. p.text) paths in
    let key_i : slice_get keys i ≡ Some a.text = slice_get-map (λ p. p.text) paths i ∙ ap (option_map (λ p. p.text)) at_i in
    let key_j : slice_get keys j ≡ Some b.text = slice_get-map (λ p. p.text) paths j ∙ ap (option_map (λ p. p.text)) at_j in
    kept DuplicateName b.span (record {
      rule_is = refl;
      place = j;
      again = record { key = b.text; there = key_j; again = any_taken (bytes_eq b.text) keys i j a.text less key_i ((bytes_eq-Decides b.text a.text).1 (sym same)) };
      there = slice_get-map (λ p. p.span) paths j ∙ ap (option_map (λ p. p.span)) at_j;
    })

get_right : {X : Type 0} (xs ys : List X) (i : ℕ) (x : X) → slice_get ys i ≡ Some x → slice_get (xs ++ ys) (length xs + i) ≡ Some x
get_right {X} [] ys i x h = let e : length {A = X} [] + i ≡ i = omega arith in rw e h
get_right (y ∷ xs) ys i x h = let e : length (y ∷ xs) + i ≡ suc (length xs + i) = omega arith in rw e (get_right xs ys i x h)

module _ {X : Type 0} (given : X → List Slice) where
  given_place : (xs : List X) (j : ℕ) (y : X) (b : Slice) → slice_get xs j ≡ Some y → given y ≡ b ∷ [] → (q : ℕ) × (slice_get (flat_map given xs) q ≡ Some b)
  given_place [] j y b at h = absurd cc
  given_place (z ∷ xs) zero y b at h = (0, ap (λ (ns : List Slice). slice_get (ns ++ flat_map given xs) 0) (ap given (same_Some z y at) ∙ h))
  given_place (z ∷ xs) (suc j) y b at h = let r = given_place xs j y b at h in (length (given z) + r.0, get_right (given z) (flat_map given xs) r.0 b r.1)

  given_places : (xs : List X) (i j : ℕ) (x y : X) (a b : Slice) → i < j → slice_get xs i ≡ Some x → slice_get xs j ≡ Some y → given x ≡ a ∷ [] → given y ≡ b ∷ []
      → (p : ℕ) × (q : ℕ) × (p < q) × (slice_get (flat_map given xs) p ≡ Some a) × (slice_get (flat_map given xs) q ≡ Some b)
  given_places [] i j x y a b less at_i at_j h k = absurd cc
  given_places (z ∷ xs) i zero x y a b less at_i at_j h k = absurd (omega (arith, less))
  given_places (z ∷ xs) zero (suc j) x y a b less at_i at_j h k =
      let one : given z ≡ a ∷ [] = ap given (same_Some z x at_i) ∙ h in
      let r = given_place xs j y b at_j k in
      (0, suc r.0, omega arith, ap (λ (ns : List Slice). slice_get (ns ++ flat_map given xs) 0) one, ap (λ (ns : List Slice). slice_get (ns ++ flat_map given xs) (suc r.0)) one ∙ r.1)
  given_places (z ∷ xs) (suc i) (suc j) x y a b less at_i at_j h k =
      let r = given_places xs i j x y a b (omega (arith, less)) at_i at_j h k in
      (length (given z) + r.0, length (given z) + r.1, (let l : r.0 < r.1 = r.2 in omega (arith, l)), get_right (given z) (flat_map given xs) r.0 a r.3, get_right (given z) (flat_map given xs) r.1 b r.4)

  -- what gives paths of one text is one
  path_givers_apart : (xs : List X) → IsKept (PathsBreak (flat_map given xs)) → (i j : ℕ) (x y : X) (a b : Slice) → slice_get xs i ≡ Some x → slice_get xs j ≡ Some y → given x ≡ a ∷ [] → given y ≡ b ∷ [] → a.text ≡ b.text → i ≡ j
  path_givers_apart xs kept i j x y a b at_i at_j h k same =
      elim (cases_lt i j) as (λ _. i ≡ j) [
        | inl less ↦ absurd (let r = given_places xs i j x y a b less at_i at_j h k in again (flat_map given xs) kept r.0 r.1 a b r.3 r.4 same r.2)
        | inr past ↦ elim (cases_lt j i) as (λ _. i ≡ j) [
          | inl more ↦ absurd (let r = given_places xs j i y x b a more at_j at_i k h in again (flat_map given xs) kept r.0 r.1 b a r.3 r.4 (sym same) r.2)
          | inr not_more ↦ omega (arith, past, not_more)
        ]
      ]

-- ---- what gives a key

-- it has a label on that side, or a path, of which its key is made
pub record GivesPlain (side : Side) (x y : WorldMemberTree) : Type 0 where
  pub label : Slice
  pub given : side_labels side x ≡ label ∷ []
  pub key : key_text y ≡ plain label.text

pub record GivesPath (side : Side) (x y : WorldMemberTree) : Type 0 where
  pub label : Slice
  pub given : side_paths side x ≡ label ∷ []
  pub key : key_text y ≡ path label.text

at_one : (side own : Side) (x : WorldMemberTree) → AtMostOne (at_side side own x)
at_one Import Import x = inr (x, refl)
at_one Import Export x = inl refl
at_one Export Import x = inl refl
at_one Export Export x = inr (x, refl)

at_given : (side own : Side) (x y : WorldMemberTree) → Has (at_side side own x) y → (y ≡ x) × (side ≡ own)
at_given Import Import x y h = (has_one x y h, refl)
at_given Import Export x y h = absurd (has_none y h)
at_given Export Import x y h = absurd (has_none y h)
at_given Export Export x y h = (has_one x y h, refl)

on_same : (side : Side) (names : List Slice) → on_side side side names ≡ names
on_same Import names = refl
on_same Export names = refl

function_side : (side : Side) (ms : List MemberTree) → AtMostOne ms → AtMostOne (flat_map (λ (f : MemberTree). at_side side Import (scope.member f)) ms)
function_side Import ms (inl e) = rw e (inl refl)
function_side Import ms (inr (m, e)) = rw e (inr (scope.member m, refl))
function_side Export ms (inl e) = rw e (inl refl)
function_side Export ms (inr (m, e)) = rw e (inl refl)

pub side_one : (side : Side) (x : WorldMemberTree) → AtMostOne (side_member side x)
side_one side (scope.member m) = function_side side (function_of m.kind m) (function_one m.kind m)
side_one side (scope.listed l) = at_one side l.side (scope.listed l)
side_one side (scope.included i) = inl refl

-- a function of a world's own is an import
own_function : (side : Side) (m : MemberTree) (y : WorldMemberTree) → Has (side_member side (scope.member m)) y → (y ≡ scope.member m) × (side ≡ Import) × IsFunction m.kind
own_function side m y h =
    let r = in_flat (λ (f : MemberTree). at_side side Import (scope.member f)) (function_of m.kind m) y h in
    let f = function_given m.kind m r.0 r.1 in
    let s = at_given side Import (scope.member r.0) y r.2 in
    (s.0 ∙ ap (λ (n : MemberTree). scope.member n) f.1, s.1, f.0)

listed_gives : (side : Side) (l : ListedTree) → side ≡ l.side → GivesPlain side (scope.listed l) (scope.listed l) ⊎ GivesPath side (scope.listed l) (scope.listed l)
listed_gives side l same = by l.kind refl
  where
    labels_are : (names : List Slice) → extern_labels l.kind l.name ≡ names → on_side side l.side (extern_labels l.kind l.name) ≡ names
    labels_are names e = ap (λ (s : Side). on_side side s (extern_labels l.kind l.name)) (sym same) ∙ on_same side (extern_labels l.kind l.name) ∙ e

    paths_are : (names : List Slice) → extern_paths l.kind l.name ≡ names → on_side side l.side (extern_paths l.kind l.name) ≡ names
    paths_are names e = ap (λ (s : Side). on_side side s (extern_paths l.kind l.name)) (sym same) ∙ on_same side (extern_paths l.kind l.name) ∙ e

    by : (k : ExternKind) → l.kind ≡ k → GivesPlain side (scope.listed l) (scope.listed l) ⊎ GivesPath side (scope.listed l) (scope.listed l)
    by (scope.ExternKind.function f) e = inl (record { label = l.name; given = labels_are (l.name ∷ []) (ap (λ (k : ExternKind). extern_labels k l.name) e); key = ap (extern_key l.name) e })
    by (scope.ExternKind.interface ms) e = inl (record { label = l.name; given = labels_are (l.name ∷ []) (ap (λ (k : ExternKind). extern_labels k l.name) e); key = ap (extern_key l.name) e })
    by (scope.item t) e = inr (record {
      label = record { text = target_text t; span = l.name.span };
      given = paths_are (record { text = target_text t; span = l.name.span } ∷ []) (ap (λ (k : ExternKind). extern_paths k l.name) e);
      key = ap (extern_key l.name) e;
    })

pub gives_key : (side : Side) (x y : WorldMemberTree) → Has (side_member side x) y → GivesPlain side x y ⊎ GivesPath side x y
gives_key side (scope.member m) y h =
    let r = own_function side m y h in
    inl (record { label = member_label m; given = ap (λ (s : Side). side_labels s (scope.member m)) r.1; key = ap key_text r.0 })
gives_key side (scope.listed l) y h =
    let r = at_given side l.side (scope.listed l) y h in
    subst (λ (z : WorldMemberTree). GivesPlain side (scope.listed l) z ⊎ GivesPath side (scope.listed l) z) (sym r.0) (listed_gives side l r.1)
gives_key side (scope.included i) y h = absurd (has_none y h)

-- no type is a function
neither : (k : MemberKind) → IsOfType k → IsFunction k → ⊥
neither (used t n) of f = f
neither (defined d) of f = f
neither (function f) of g = of
neither (method r f) of g = of
neither (static r f) of g = of
neither (constructor r ps t) of g = of

-- ---- keys that are apart

module _ (ms : List WorldMemberTree) (kept : IsKept (WorldBreaks ms)) where
  -- those that give one key are one
  one_giver : (side : Side) (i j : ℕ) (x z y w : WorldMemberTree) → slice_get ms i ≡ Some x → slice_get ms j ≡ Some z → Has (side_member side x) y → Has (side_member side z) w → key_text y ≡ key_text w → i ≡ j
  one_giver side i j x z y w at_i at_j has_y has_w same = by (gives_key side x y has_y) (gives_key side z w has_w)
    where
      by : GivesPlain side x y ⊎ GivesPath side x y → GivesPlain side z w ⊎ GivesPath side z w → i ≡ j
      by (inl a) (inl b) =
          let e : plain a.label.text ≡ plain b.label.text = sym a.key ∙ same ∙ b.key in
          let texts : a.label.text ≡ b.label.text = cc in
          givers_apart (side_labels side) ms (λ rule at c. side_keeps ms kept side rule at (fact.SideBreaks.by_labels c)) i j x z a.label b.label at_i at_j a.given b.given texts
      by (inl a) (inr b) = absurd (let e : plain a.label.text ≡ path b.label.text = sym a.key ∙ same ∙ b.key in cc)
      by (inr a) (inl b) = absurd (let e : path a.label.text ≡ plain b.label.text = sym a.key ∙ same ∙ b.key in cc)
      by (inr a) (inr b) =
          let e : path a.label.text ≡ path b.label.text = sym a.key ∙ same ∙ b.key in
          let texts : a.label.text ≡ b.label.text = cc in
          path_givers_apart (side_paths side) ms (λ rule at c. side_keeps ms kept side rule at (fact.SideBreaks.by_paths c)) i j x z a.label b.label at_i at_j a.given b.given texts

  pub keys_are_apart : (side : Side) → AreApartBy key_text (side_members side ms)
  keys_are_apart side = flat_apart (side_member side) (side_one side) key_text ms (one_giver side)

  -- ---- types

  pub world_type_given : (x : WorldMemberTree) (m : MemberTree) → Has (world_member_type x) m → (x ≡ scope.member m) × IsOfType m.kind
  world_type_given (scope.member n) m h =
      let t = type_given n.kind n m h in
      (ap (λ (z : MemberTree). scope.member z) (sym t.1), subst (λ (z : MemberTree). IsOfType z.kind) (sym t.1) t.0)
  world_type_given (scope.listed l) m h = absurd (has_none m h)
  world_type_given (scope.included i) m h = absurd (has_none m h)

  -- no function, and nothing that is imported, has the name of a type
  pub types_have_no_key : (m : MemberTree) (y : WorldMemberTree) → Has (world_types ms) m → Has (side_members Import ms) y → key_text y ≡ plain m.name.text → ⊥
  types_have_no_key m y has_m has_y same =
      let a = in_flat world_member_type ms m has_m in
      let b = in_flat (side_member Import) ms y has_y in
      let t = world_type_given a.0 m a.2 in
      by a.1.0 (a.1.1 ∙ ap (λ (z : WorldMemberTree). Some z) t.0) t.1 b.0 b.1.0 b.1.1 b.2 (gives_key Import b.0 y b.2)
    where
      by : (i : ℕ) → slice_get ms i ≡ Some (scope.member m) → IsOfType m.kind → (z : WorldMemberTree) (j : ℕ) → slice_get ms j ≡ Some z → Has (side_member Import z) y → GivesPlain Import z y ⊎ GivesPath Import z y → ⊥
      by i at_i of z j at_j has (inr g) = (let e : path g.label.text ≡ plain m.name.text = sym g.key ∙ same in cc)
      by i at_i of z j at_j has (inl g) =
          let e : plain g.label.text ≡ plain m.name.text = sym g.key ∙ same in
          let texts : g.label.text ≡ m.name.text = cc in
          let n : i ≡ j =
          givers_apart (side_labels Import) ms (λ rule at c. side_keeps ms kept Import rule at (fact.SideBreaks.by_labels c)) i j (scope.member m) z (member_label m) g.label at_i at_j refl g.given (type_label m.kind m.name of ∙ sym texts) in
          let one : z ≡ scope.member m = same_Some z (scope.member m) (sym at_j ∙ ap (slice_get ms) (sym n) ∙ at_i) in
          neither m.kind of (own_function Import m y (subst (λ (x : WorldMemberTree). Has (side_member Import x) y) one has)).2
