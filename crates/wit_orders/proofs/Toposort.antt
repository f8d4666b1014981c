-- The order of entries is that of `toposort`.
use Rattle.std.proofs.Common.{◌≡◌, ℕ, ◌<◌, ◌+◌, zero, suc, arith, List, [], ◌∷◌, ◌↔◌, Bool, true, false, cond, not, Some, None, map, length, inl, inr, refl, sym, subst, ap, ◌∙◌}
use Rattle.std.specs.Prelude.{slice_get, position, bytes_eq, option_map, nat_lt}
use Rattle.std.specs.List.{prefix_len}
use Rattle.std.proofs.lemmas.Bool.{lt-ltb}
use Prim.Native.Nat.compare
use lib.Dec.{is_le}
use Rattle.std.proofs.lemmas.List.{length-map}
use Rattle.std.proofs.lemmas.Option.{same_Some}
use Rattle.name_places.specs.FirstPlaces.{place_of}
use Rattle.wit_order.specs.Order.{Has, Leads, IsLeastOrder, IsOnCircle}
use Rattle.wit_order.specs.Names as names
use Rattle.wit_order.specs.Names.{Ask, Table, key_list, asks, NeedsKey, AreAllThere, AreKeysAt, IsToposort}
use Rattle.wit_order.proofs.Orders.{order_no_circle, least_same, leads_same}
use Rattle.wit_orders.specs.Needs.{Name, Entry, labels, NeedsIn, IsOrderOf}
use Rattle.wit_orders.specs.Toposort.{ask_of, table_of, AreNamed, OrdersAreToposorts}

-- ---- the table of entries

keys_are : (es : List Entry) → key_list (table_of es) ≡ labels es
keys_are [] = refl
keys_are (e ∷ es) = ap (λ (ks : List Name). e.label.text ∷ ks) (keys_are es)

-- the first place of a name, in the words of `toposort`
one_later : (k n : ℕ) → cond (nat_lt (suc k) (suc n)) (Some (suc k)) None ≡ option_map suc (cond (nat_lt k n) (Some k) None)
one_later k n = let same : nat_lt (suc k) (suc n) ≡ nat_lt k n = ap is_le (compare.suc-suc (suc k) n) in rw same (by (nat_lt k n))
  where
    by : (b : Bool) → cond b (Some (suc k)) None ≡ option_map suc (cond b (Some k) None)
    by true = refl
    by false = refl

one_more : (k : ℕ) → 1 + k ≡ suc k
one_more k = omega arith

position_is : (name : Name) (ns : List Name) → position (bytes_eq name) ns ≡ place_of name ns
position_is name [] = refl
position_is name (n ∷ ns) = by (bytes_eq name n) refl (position_is name ns)
  where
    by : (b : Bool) → bytes_eq name n ≡ b → position (bytes_eq name) ns ≡ place_of name ns → position (bytes_eq name) (n ∷ ns) ≡ place_of name (n ∷ ns)
    by true t more = rw t (let first : nat_lt 0 (suc (length ns)) ≡ true = lt-ltb 0 (suc (length ns)) (omega arith) in rw first refl)
    by false t more = rw t (ap (λ (m : ℕ). cond (nat_lt m (suc (length ns))) (Some m) None) (one_more (prefix_len (λ m. not (bytes_eq name m)) ns)) ∙ one_later (prefix_len (λ m. not (bytes_eq name m)) ns) (length ns) ∙ ap (option_map suc) more)

place_is : (es : List Entry) (name : Name) → names.place_of (table_of es) name ≡ place_of name (labels es)
place_is es name = ap (position (bytes_eq name)) (keys_are es) ∙ position_is name (labels es)

has_map : {X Y : Type 0} (f : X → Y) (xs : List X) (y : Y) → Has (map f xs) y → (x : X) × Has xs x × (y ≡ f x)
has_map f [] y h = absurd h
has_map f (x ∷ xs) y h = elim h as (λ _. (z : _) × Has (x ∷ xs) z × (y ≡ f z)) [
  | inl here ↦ (x, inl refl, here)
  | inr later ↦ let r = has_map f xs y later in (r.0, inr r.1, r.2)
]

map_has : {X Y : Type 0} (f : X → Y) (xs : List X) (x : X) → Has xs x → Has (map f xs) (f x)
map_has f [] x h = absurd h
map_has f (z ∷ xs) x h = elim h as (λ _. Has (map f (z ∷ xs)) (f x)) [ inl here ↦ inl (ap f here) | inr later ↦ inr (map_has f xs x later) ]

-- what a key needs, an entry needs
asks_are : (es : List Entry) (i : ℕ) (e : Entry) → slice_get es i ≡ Some e → asks (table_of es) i ≡ map ask_of e.needs
asks_are [] i e at = absurd cc
asks_are (x ∷ es) zero e at = ap (λ (y : Entry). map ask_of y.needs) (same_Some x e at)
asks_are (x ∷ es) (suc i) e at = asks_are es i e at

asked_of : (es : List Entry) (i : ℕ) (a : Ask) → Has (asks (table_of es) i) a → (e : Entry) × (slice_get es i ≡ Some e) × Has es e × Has (map ask_of e.needs) a
asked_of [] i a h = absurd h
asked_of (x ∷ es) zero a h = (x, refl, inl refl, h)
asked_of (x ∷ es) (suc i) a h = let r = asked_of es i a h in (r.0, r.1, inr r.2, r.3)

needs_are : (es : List Entry) (i j : ℕ) → NeedsIn es i j ↔ NeedsKey (table_of es) i j
needs_are es i j = (
  (λ h. (ask_of h.name, subst (λ (w : List Ask). Has w (ask_of h.name)) (sym (asks_are es i h.one h.there)) (map_has ask_of h.one.needs h.name h.named), place_is es h.name.text ∙ h.place)),
  (λ h.
      let of = asked_of es i h.0 h.1 in
      let n = has_map ask_of of.0.needs h.0 of.3 in
      record { one = of.0; there = of.1; name = n.0; named = n.1; place = sym (place_is es n.0.text) ∙ ap (λ (a : Ask). names.place_of (table_of es) a.name) (sym n.2) ∙ h.2 }),
)

-- ---- the law

size_is : (es : List Entry) → length (table_of es) ≡ length es
size_is es = length-map es (λ (e : Entry). (e.label.text, map ask_of e.needs))

there_within : (es : List Entry) (i : ℕ) (e : Entry) → slice_get es i ≡ Some e → i < length es
there_within [] i e at = absurd cc
there_within (x ∷ es) zero e at = omega arith
there_within (x ∷ es) (suc i) e at = let less : i < length es = there_within es i e at in omega (arith, less)

-- what leads back to itself is an entry
circle_within : (es : List Entry) (i : ℕ) (via : List ℕ) (j : ℕ) → Leads (length es) (NeedsIn es) i via j → i < length es
circle_within es i [] j need = there_within es i need.one need.there
circle_within es i (c ∷ via) j path = there_within es i path.0.one path.0.there

module _ (es : List Entry) where
  abbrev t : Table
  t = table_of es

  least_there : (order : List ℕ) → IsOrderOf es order → IsLeastOrder (length t) (NeedsKey t) order
  least_there order h = subst (λ (n : ℕ). IsLeastOrder n (NeedsKey t) order) (sym (size_is es)) (least_same (length es) (NeedsIn es) (NeedsKey t) (needs_are es) order h)

  least_back : (order : List ℕ) → IsLeastOrder (length t) (NeedsKey t) order → IsOrderOf es order
  least_back order h = least_same (length es) (NeedsKey t) (NeedsIn es) (λ i j. ((needs_are es i j).1, (needs_are es i j).0)) order (subst (λ (n : ℕ). IsLeastOrder n (NeedsKey t) order) (size_is es) h)

  all_there : AreNamed es → AreAllThere t
  all_there named a (i, asked, none) =
      let of = asked_of es i a asked in
      let n = has_map ask_of of.0.needs a of.3 in
      named of.0 n.0 of.2 n.1 (sym (place_is es n.0.text) ∙ ap (λ (b : Ask). names.place_of t b.name) (sym n.2) ∙ none)

  no_circle : (order : List ℕ) → IsOrderOf es order → (i : ℕ) → IsOnCircle (length t) (NeedsKey t) i → ⊥
  no_circle order h i (via, path) =
      let back : IsOnCircle (length es) (NeedsIn es) i = (via, leads_same (length es) (NeedsKey t) (NeedsIn es) (λ a b. (needs_are es a b).1) i via i (subst (λ (n : ℕ). Leads n (NeedsKey t) i via i) (size_is es) path)) in
      order_no_circle (length es) (NeedsIn es) order h.is_order i (circle_within es i via i back.1) back

pub orders_are_toposorts : OrdersAreToposorts
orders_are_toposorts = record {
  sorted = λ es order names named h keys. record { order = order; keys = keys; least = least_there es order h; found = all_there es named; no_circle = no_circle es order h };
  only = λ es names h. (h.order, least_back es h.order h.least, h.keys);
}
