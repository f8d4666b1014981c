-- No two imports and no two exports of a world have one key.
use Rattle.std.proofs.Common.{◌≡◌, ℕ, ◌+◌, ◌<◌, zero, suc, List, [], ◌∷◌, ◌++◌, ◌⊎◌, inl, inr, length, Option, Some, None, true, refl, sym, subst, ap, ◌∙◌, arith}
use Rattle.std.proofs.lemmas.Option.{same_Some}
use Rattle.std.specs.Prelude.{slice_get, option_map}
use Rattle.name_places.proofs.Places.{place_names}
use Rattle.wit_words.specs.Slice.{Slice}
use Rattle.wit_types.specs.declared.function.Function.{Function}
use Rattle.wit_types.specs.declared.«package».AstItem.TheVariants as ids_of
use Rattle.wit_types.specs.WorldKey.{Known, spelled, placed, known, key_eq, known_eq-Decides}
use Rattle.wit_scopes.specs.Paths.{TargetTree, own, foreign}
use Rattle.wit_scopes.specs.Members.{MemberTree}
use Rattle.wit_scopes.specs.Scopes as scope
use Rattle.wit_scopes.specs.Scopes.{ExternKind, ListedTree, WorldMemberTree}
use Rattle.wit_foreign.specs.Passed.wit_rules-Labels.{full_name, target_text}
use Rattle.wit_arena.specs.Tree.{Name, PackageText, in_interface, Owner}
use Rattle.wit_arena.specs.Table.{Entries}
use Rattle.wit_arena.specs.Meaning.{Has, package_text}
use Rattle.wit_resolved_scopes.specs.Each.{Each, AreApartBy}
use Rattle.wit_resolved_scopes.specs.InArena.{IsFunctionOf}
use Rattle.wit_resolved_scopes.specs.Texts.{InterfaceText, KeyText, plain, path, extern_key, key_text}
use Rattle.wit_resolved_scopes.proofs.Eaches.{each_at, each_right}
use Rattle.wit_worlds.specs.Worlds.{Entry, function_member}
use Rattle.wit_worlds.specs.Paths.{PathsTree, IsInterfaceId, HaveOneOwner}
use Rattle.wit_worlds.specs.Listing.{MakesFunctionEntry, ArePaired, IsExternMade, IsEntryMade}

-- ---- paths

-- what names one thing in another package is spelled alike
pub foreign_text : (a b a2 b2 : Slice) (v v2 : Option Slice) (n n2 : Slice) → a.text ≡ a2.text → b.text ≡ b2.text → option_map (λ (x : Slice). x.text) v ≡ option_map (λ (x : Slice). x.text) v2 → n.text ≡ n2.text
    → target_text (foreign (record { namespace = a; name = b; version = v }) n) ≡ target_text (foreign (record { namespace = a2; name = b2; version = v2 }) n2)
foreign_text a b a2 b2 None None n n2 e f g h = cc
foreign_text a b a2 b2 (Some v) (Some v2) n n2 e f g h = (let t : v.text ≡ v2.text = same_Some v.text v2.text g in cc)
foreign_text a b a2 b2 None (Some v2) n n2 e f g h = absurd cc
foreign_text a b a2 b2 (Some v) None n n2 e f g h = absurd cc

module _ (ps : PathsTree) (one : HaveOneOwner ps) where
  -- what has one id is spelled alike
  same_target : (t u : TargetTree) (i j : ℕ) → IsInterfaceId ps t i → IsInterfaceId ps u j → i ≡ j → target_text t ≡ target_text u
  same_target (own n) (own m) i j (p, at_p, is_p) (q, at_q, is_q) e =
      let same : p ≡ q = omega (arith, is_p, is_q, e) in
      same_Some n.text m.text (sym (place_names n.text ps.interfaces p at_p) ∙ ap (slice_get ps.interfaces) same ∙ place_names m.text ps.interfaces q at_q)
  same_target (own n) (foreign p m) i j (q, at, is) has e = absurd (let less : j < ps.first_interface = one.below (record { package_text = package_text p; place = in_interface m.text }) j has in omega (arith, is, e))
  same_target (foreign p m) (own n) i j has (q, at, is) e = absurd (let less : i < ps.first_interface = one.below (record { package_text = package_text p; place = in_interface m.text }) i has in omega (arith, is, e))
  same_target (foreign p n) (foreign q m) i j has_i has_j e =
      let o : Owner = record { package_text = package_text p; place = in_interface n.text } in
      let v : Owner = record { package_text = package_text q; place = in_interface m.text } in
      let same : o ≡ v = one.alone o v i has_i (subst (λ (k : ℕ). Has ps.items (v, ids_of.Interface k)) (sym e) has_j) in
      let texts : package_text p ≡ package_text q = ap (λ (z : Owner). z.package_text) same in
      let places : in_interface n.text ≡ in_interface m.text = ap (λ (z : Owner). z.place) same in
      foreign_text p.namespace p.name q.namespace q.name p.version q.version n m (ap (λ (z : PackageText). z.namespace) texts) (ap (λ (z : PackageText). z.name) texts) (ap (λ (z : PackageText). z.version) texts) cc

  -- ---- keys

  -- a key as it is known, of what has that text
  data HasKey (k : Known) : KeyText → Type 0 where
    has_name : (n : Name) → k ≡ spelled n → HasKey k (plain n)
    has_id : (t : TargetTree) (id : ℕ) → IsInterfaceId ps t id → k ≡ placed id → HasKey k (path (target_text t))

  same_key : (k l : Known) (a b : KeyText) → HasKey k a → HasKey l b → k ≡ l → a ≡ b
  same_key k l a b (has_name n e) (has_name m f) same = (let s : spelled n ≡ spelled m = sym e ∙ same ∙ f in let t : n ≡ m = cc in ap plain t)
  same_key k l a b (has_name n e) (has_id t id is f) same = absurd (let s : spelled n ≡ placed id = sym e ∙ same ∙ f in cc)
  same_key k l a b (has_id t id is e) (has_name n f) same = absurd (let s : placed id ≡ spelled n = sym e ∙ same ∙ f in cc)
  same_key k l a b (has_id t i is e) (has_id u j js f) same = (let s : placed i ≡ placed j = sym e ∙ same ∙ f in let n : i ≡ j = cc in ap path (same_target t u i j is js n))

  module _ (w : Name) (ms : List MemberTree) (fs : List Function) (ts : List InterfaceText) (ids : List ℕ) (table : Entries) (named : Each (IsFunctionOf table) ms fs) where
    function_key : (m : MemberTree) (f : Function) (e : Entry) → ArePaired ms fs m f → MakesFunctionEntry f e → HasKey (known e.0) (plain (full_name m.kind m.name))
    function_key m f e (k, at_m, at_f) made = has_name (full_name m.kind m.name) (made.key ∙ ap spelled (each_at (IsFunctionOf table) ms fs named k m f at_m at_f).name)

    extern_has_key : (l : ListedTree) (k : ExternKind) (e : Entry) → IsExternMade ps w ms fs ts ids l k e → HasKey (known e.0) (extern_key l.name k)
    extern_has_key l (scope.ExternKind.function t) e (f, pair, made) = function_key (function_member l t) f e pair made
    extern_has_key l (scope.ExternKind.interface ns) e (id, pair, made) = has_name l.name.text made.key
    extern_has_key l (scope.item t) e (id, is, made) = has_id t id is made.key

    entry_key : (x : WorldMemberTree) (e : Entry) → IsEntryMade ps w ms fs ts ids x e → HasKey (known e.0) (key_text x)
    entry_key (scope.member m) e (f, pair, made) = function_key m f e pair made
    entry_key (scope.listed l) e made = extern_has_key l l.kind e made
    entry_key (scope.included i) e made = absurd made

    module _ (xs : List WorldMemberTree) (es : List Entry) (each : Each (IsEntryMade ps w ms fs ts ids) xs es) where
      -- entries with one key stand at one place
      pub entries_apart : AreApartBy key_text xs → (i j : ℕ) (e f : Entry) → slice_get es i ≡ Some e → slice_get es j ≡ Some f → key_eq e.0 f.0 ≡ true → i ≡ j
      entries_apart apart i j e f at_i at_j same =
          let x = each_right (IsEntryMade ps w ms fs ts ids) xs es each i e at_i in
          let y = each_right (IsEntryMade ps w ms fs ts ids) xs es each j f at_j in
          apart i j x.0 y.0 x.1 y.1 (same_key (known e.0) (known f.0) (key_text x.0) (key_text y.0) (entry_key x.0 e x.2) (entry_key y.0 f y.2) ((known_eq-Decides (known e.0) (known f.0)).0 same))

      -- a plain name that none of the members has is no entry's key
      pub no_such_entry : (n : Name) → ((x : WorldMemberTree) → Has xs x → key_text x ≡ plain n → ⊥) → (i : ℕ) (e : Entry) → slice_get es i ≡ Some e → known e.0 ≡ spelled n → ⊥
      no_such_entry n none i e at is =
          let x = each_right (IsEntryMade ps w ms fs ts ids) xs es each i e at in
          none x.0 (i, x.1) (same_key (known e.0) (spelled n) (key_text x.0) (plain n) (entry_key x.0 e x.2) (has_name n refl) is)

-- ---- one list behind another

at_either : {X : Type 0} (xs ys : List X) (i : ℕ) (x : X) → slice_get (xs ++ ys) i ≡ Some x → (slice_get xs i ≡ Some x) ⊎ ((j : ℕ) × (i ≡ length xs + j) × (slice_get ys j ≡ Some x))
at_either {X} [] ys i x at = inr (i, (let e : i ≡ length {A = X} [] + i = omega arith in e), at)
at_either (z ∷ xs) ys zero x at = inl at
at_either (z ∷ xs) ys (suc i) x at = elim (at_either xs ys i x at) as (λ _. (slice_get (z ∷ xs) (suc i) ≡ Some x) ⊎ ((j : ℕ) × (suc i ≡ length (z ∷ xs) + j) × (slice_get ys j ≡ Some x))) [
  | inl l ↦ inl l
  | inr r ↦ inr (r.0, (let e : i ≡ length xs + r.0 = r.1 in omega (arith, e)), r.2)
]

pub both_apart : (xs ys : List Entry) → ((i j : ℕ) (e f : Entry) → slice_get xs i ≡ Some e → slice_get xs j ≡ Some f → key_eq e.0 f.0 ≡ true → i ≡ j)
    → ((i j : ℕ) (e f : Entry) → slice_get ys i ≡ Some e → slice_get ys j ≡ Some f → key_eq e.0 f.0 ≡ true → i ≡ j)
    → ((i j : ℕ) (e f : Entry) → slice_get xs i ≡ Some e → slice_get ys j ≡ Some f → known e.0 ≡ known f.0 → ⊥)
    → (i j : ℕ) (e f : Entry) → slice_get (xs ++ ys) i ≡ Some e → slice_get (xs ++ ys) j ≡ Some f → key_eq e.0 f.0 ≡ true → i ≡ j
both_apart xs ys of_xs of_ys across i j e f at_i at_j same =
    let keys : known e.0 ≡ known f.0 = (known_eq-Decides (known e.0) (known f.0)).0 same in
    elim (at_either xs ys i e at_i) as (λ _. i ≡ j) [
      | inl l_i ↦ elim (at_either xs ys j f at_j) as (λ _. i ≡ j) [
        | inl l_j ↦ of_xs i j e f l_i l_j same
        | inr r_j ↦ absurd (across i r_j.0 e f l_i r_j.2 keys)
      ]
      | inr r_i ↦ elim (at_either xs ys j f at_j) as (λ _. i ≡ j) [
        | inl l_j ↦ absurd (across j r_i.0 f e l_j r_i.2 (sym keys))
        | inr r_j ↦ (let inner : r_i.0 ≡ r_j.0 = of_ys r_i.0 r_j.0 e f r_i.2 r_j.2 same in let x : i ≡ length xs + r_i.0 = r_i.1 in let y : j ≡ length xs + r_j.0 = r_j.1 in omega (arith, x, y, inner))
      ]
    ]
