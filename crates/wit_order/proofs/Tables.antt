use Rattle.std.proofs.Common.{◌≡◌, ℕ, ◌<◌, ◌≤◌, ◌+◌, zero, suc, List, [], ◌∷◌, ◌++◌, ◌⊎◌, ◌↔◌, inl, inr, refl, sym, subst, ap, ◌∙◌, arith, get_or, length, take, map, add-one, Option, Some, None, Bool, cond, not}
use Rattle.std.specs.Prelude.{Vec, slice_get, position, bytes_eq, nat_lt}
use Rattle.std.specs.Borrow.{Bor}
use Rattle.std.specs.declared.alloc.Global.{Global}
use Rattle.std.specs.Map.{keys_of, values_of}
use Rattle.std.specs.Option.{option_map}
use Rattle.std.specs.List.{prefix_len}
use Rattle.std.proofs.lemmas.List.{length-map}
use Rattle.std.proofs.lemmas.Option.{same_Some}
use Rattle.std.proofs.lemmas.Bool.{cases_lt}
use Rattle.wit_order.specs.declared.names.Need.{Need}
use Rattle.wit_order.specs.declared.fault.OrderFault.{OrderFault}
use Rattle.wit_order.specs.declared.fault.OrderFault.TheVariants.{NameNotFound, Cycle, OutOfMemory}
use Rattle.wit_order.specs.Order.{Has, Leads, IsLeastOrder, IsOnCircle}
use Rattle.wit_order.specs.Places.{Rows, row, Needs, AreBelow, IsCircle, IsSorted}
use Rattle.wit_order.specs.Names.{Ask, Table, key_list, asks, place_of, NeedsKey, IsMissing, AreAllThere, ClosesCircle, AreKeysAt, IsToposort, ask, asks_of, Entries, table, texts, AreFound, IsLookCause, IsMissCause, AreRows, LacksName, HasCircle, AreAlike, OrderIsOfTheSet, IsFaultOf, FaultDeniesAnOrder}
use Rattle.wit_order.proofs.Orders.{least_same, leads_same, least_one}
use Rattle.wit_order.proofs.Steps.{leads_more}

-- ---- a map of names is a table

pub table-length : (es : Entries) → length (table es) ≡ length es
table-length es = length-map es (λ e. (e.0.now, asks_of e.1.items))

pub key_list_read : (es : Entries) → key_list (table es) ≡ map (λ k. k.now) (keys_of es)
key_list_read [] = refl
key_list_read (e ∷ es) = ap (λ (ks : List (List ℕ)). e.0.now ∷ ks) (key_list_read es)

prefix_len_map : {X Y : Type 0} (p : Y → Bool) (f : X → Y) → (xs : List X) → prefix_len p (map f xs) ≡ prefix_len (λ x. p (f x)) xs
prefix_len_map p f [] = refl
prefix_len_map p f (x ∷ xs) = rw (prefix_len_map p f xs) refl

position_map : {X Y : Type 0} (p : Y → Bool) (f : X → Y) → (xs : List X) → position p (map f xs) ≡ position (λ x. p (f x)) xs
position_map p f xs =
    ap (λ (k : ℕ). cond (nat_lt k (length (map f xs))) (Some k) None) (prefix_len_map (λ y. not (p y)) f xs)
    ∙ ap (λ (n : ℕ). cond (nat_lt (prefix_len (λ x. not (p (f x))) xs) n) (Some (prefix_len (λ x. not (p (f x))) xs)) None) (length-map xs f)

pub place_read : (es : Entries) (name : List ℕ) (o : Option ℕ) → position (λ k. bytes_eq name k.now) (keys_of es) ≡ o → place_of (table es) name ≡ o
place_read es name o h =
    ap (λ (ks : List (List ℕ)). position (bytes_eq name) ks) (key_list_read es) ∙ position_map (bytes_eq name) (λ k. k.now) (keys_of es) ∙ h

pub key_read : (es : Entries) (i : ℕ) (e : Bor (List ℕ) × Vec Need Global) → slice_get es i ≡ Some e → slice_get (key_list (table es)) i ≡ Some e.0.now
key_read [] i e h = absurd cc
key_read (x ∷ es) zero e h = ap (λ (o : Option (Bor (List ℕ) × Vec Need Global)). option_map (λ (y : Bor (List ℕ) × Vec Need Global). y.0.now) o) h
key_read (x ∷ es) (suc i) e h = key_read es i e h

pub asks_read : (es : Entries) (i : ℕ) (v : Vec Need Global) → slice_get (values_of es) i ≡ Some v → asks (table es) i ≡ asks_of v.items
asks_read [] i v e = absurd cc
asks_read (x ∷ es) zero v e = ap (λ (w : Vec Need Global). asks_of w.items) (same_Some x.1 v e)
asks_read (x ∷ es) (suc i) v e = asks_read es i v e

-- ---- the places of what is asked

-- one more name is looked up
found_more : (t : Table) (ids : List Need) (k : ℕ) (d : Need) (ps : List ℕ) (j : ℕ) → k < length ids
    → AreFound t (asks_of (take k ids)) ps → place_of t (get_or ids k d).name.now ≡ Some j → j < length t
    → AreFound t (asks_of (take (suc k) ids)) (ps ++ j ∷ [])
found_more t [] k d ps j l h at lj = absurd (omega arith)
found_more t (x ∷ ids) zero d [] j l h at lj = (at, lj, tt)
found_more t (x ∷ ids) zero d (p ∷ ps) j l h at lj = absurd h
found_more t (x ∷ ids) (suc k) d [] j l h at lj = absurd h
found_more t (x ∷ ids) (suc k) d (p ∷ ps) j l h at lj = (h.0, h.1, found_more t ids k d ps j (omega arith) h.2 at lj)

pub found_step : (t : Table) (ids : List Need) (k : ℕ) (d : Need) (ps : List ℕ) (j : ℕ) → k < length ids
    → AreFound t (asks_of (take k ids)) ps → place_of t (get_or ids k d).name.now ≡ Some j → j < length t
    → AreFound t (asks_of (take (k + 1) ids)) (ps ++ j ∷ [])
found_step t ids k d ps j l h at lj = subst (λ (z : ℕ). AreFound t (asks_of (take z ids)) (ps ++ j ∷ [])) (sym (add-one k)) (found_more t ids k d ps j l h at lj)

pub has_ask : (ids : List Need) (k : ℕ) (d : Need) → k < length ids → Has (asks_of ids) (ask (get_or ids k d))
has_ask [] k d l = absurd (omega arith)
has_ask (x ∷ ids) zero d l = inl refl
has_ask (x ∷ ids) (suc k) d l = inr (has_ask ids k d (omega arith))

pub ask_at : (ids : List Need) (k : ℕ) (d : Need) → k < length ids → slice_get (asks_of ids) k ≡ Some (ask (get_or ids k d))
ask_at [] k d l = absurd (omega arith)
ask_at (x ∷ ids) zero d l = refl
ask_at (x ∷ ids) (suc k) d l = ask_at ids k d (omega arith)

-- each name is at its place
found_all : (t : Table) (wanted : List Ask) (ps : List ℕ) → AreFound t wanted ps → (a : Ask) → Has wanted a → (j : ℕ) × Has ps j × (place_of t a.name ≡ Some j)
found_all t [] [] h a has = absurd has
found_all t [] (p ∷ ps) h a has = absurd h
found_all t (b ∷ wanted) [] h a has = absurd h
found_all t (b ∷ wanted) (p ∷ ps) h a has =
    elim has as (λ _. (j : ℕ) × Has (p ∷ ps) j × (place_of t a.name ≡ Some j)) [
      | inl here ↦ (p, inl refl, subst (λ (x : Ask). place_of t x.name ≡ Some p) (sym here) h.0)
      | inr later ↦ let r = found_all t wanted ps h.2 a later in (r.0, inr r.1, r.2)
    ]

found_only : (t : Table) (wanted : List Ask) (ps : List ℕ) → AreFound t wanted ps → (j : ℕ) → Has ps j → (a : Ask) × Has wanted a × (place_of t a.name ≡ Some j) × (j < length t)
found_only t [] [] h j has = absurd has
found_only t [] (p ∷ ps) h j has = absurd h
found_only t (b ∷ wanted) [] h j has = absurd h
found_only t (b ∷ wanted) (p ∷ ps) h j has =
    elim has as (λ _. (a : Ask) × Has (b ∷ wanted) a × (place_of t a.name ≡ Some j) × (j < length t)) [
      | inl here ↦ (b, inl refl, subst (λ (z : ℕ). place_of t b.name ≡ Some z) (sym here) h.0, subst (λ (z : ℕ). z < length t) (sym here) h.1)
      | inr later ↦ let r = found_only t wanted ps h.2 j later in (r.0, inr r.1, r.2, r.3)
    ]

-- what stands at a place of a row is the place of what is asked there
found_at : (t : Table) (wanted : List Ask) (ps : List ℕ) → AreFound t wanted ps → (k : ℕ) → k < length ps
    → (k < length wanted) × ((a : Ask) → slice_get wanted k ≡ Some a → Has wanted a × (place_of t a.name ≡ Some (get_or ps k 0)))
found_at t [] [] h k l = absurd (omega arith)
found_at t [] (p ∷ ps) h k l = absurd h
found_at t (b ∷ wanted) [] h k l = absurd h
found_at t (b ∷ wanted) (p ∷ ps) h zero l = (
  (omega arith),
  (λ a e. let same : b ≡ a = same_Some b a e in (inl (sym same), subst (λ (x : Ask). place_of t x.name ≡ Some p) same h.0)),
)
found_at t (b ∷ wanted) (p ∷ ps) h (suc k) l =
    let r = found_at t wanted ps h.2 k (omega arith) in
    let less : k < length wanted = r.0 in
    ((omega arith), (λ a e. let q = r.1 a e in (inr q.0, q.1)))

-- ---- rows

row_last : (g : Rows) (v : Vec ℕ Global) → row (g ++ v ∷ []) (length g) ≡ v.items
row_last [] v = refl
row_last (r ∷ g) v = row_last g v

row_kept : (g : Rows) (v : Vec ℕ Global) (i : ℕ) → i < length g → row (g ++ v ∷ []) i ≡ row g i
row_kept [] v i l = absurd (omega arith)
row_kept (r ∷ g) v zero l = refl
row_kept (r ∷ g) v (suc i) l = row_kept g v i (omega arith)

asks_past : (t : Table) (i : ℕ) → length t ≤ i → asks t i ≡ []
asks_past [] i l = refl
asks_past (x ∷ t) zero l = absurd (omega arith)
asks_past (x ∷ t) (suc i) l = asks_past t i (omega arith)

row_none : (g : Rows) (i : ℕ) → length g ≤ i → row g i ≡ []
row_none [] i l = refl
row_none (x ∷ t) zero l = absurd (omega arith)
row_none (x ∷ t) (suc i) l = row_none t i (omega arith)

-- one more row is read
pub rows_step : (es : Entries) (g : Rows) (v : Vec ℕ Global) (names : Vec Need Global) (n : ℕ) → length g ≡ n
    → ((i : ℕ) → i < n → AreFound (table es) (asks (table es) i) (row g i)) → slice_get (values_of es) n ≡ Some names → AreFound (table es) (asks_of names.items) v.items
    → (i : ℕ) → i < n + 1 → AreFound (table es) (asks (table es) i) (row (g ++ v ∷ []) i)
rows_step es g v names n size h at found i l =
    let t : Table = table es in
    elim (cases_lt i n) as (λ _. AreFound t (asks t i) (row (g ++ v ∷ []) i)) [
      | inl less ↦ subst (λ (w : List ℕ). AreFound t (asks t i) w) (sym (row_kept g v i (omega arith))) (h i less)
      | inr more ↦
          let e : n ≡ i = omega arith in
          let last : row (g ++ v ∷ []) n ≡ v.items = subst (λ (z : ℕ). row (g ++ v ∷ []) z ≡ v.items) size (row_last g v) in
          subst (λ (z : ℕ). AreFound t (asks t z) (row (g ++ v ∷ []) z)) e
          (subst (λ (w : List ℕ). AreFound t (asks t n) w) (sym last)
          (subst (λ (w : List Ask). AreFound t w v.items) (sym (asks_read es n names at)) found))
    ]

pub rows_end : (t : Table) (g : Rows) (n : ℕ) → length g ≡ n → length t ≤ n → n ≤ length t → ((i : ℕ) → i < n → AreFound t (asks t i) (row g i)) → AreRows t g
rows_end t g n size low high h = record {
  size = omega arith;
  found = λ i. elim (cases_lt i n) as (λ _. AreFound t (asks t i) (row g i)) [
    | inl less ↦ h i less
    | inr more ↦
        subst (λ (w : List ℕ). AreFound t (asks t i) w) (sym (row_none g i (omega arith)))
        (subst (λ (w : List Ask). AreFound t w []) (sym (asks_past t i (omega arith))) tt)
  ];
}

missing_at : (es : Entries) (i : ℕ) (names : Vec Need Global) (a : Ask) → slice_get (values_of es) i ≡ Some names
    → Has (asks_of names.items) a → place_of (table es) a.name ≡ None → IsMissing (table es) a
missing_at es i names a at has none = (i, subst (λ (w : List Ask). Has w a) (sym (asks_read es i names at)) has, none)

pub miss_cause : (kind : List ℕ) (es : Entries) (i : ℕ) (names : Vec Need Global) → slice_get (values_of es) i ≡ Some names
    → (e : OrderFault) → IsLookCause kind (table es) (asks_of names.items) e → IsMissCause kind (table es) e
miss_cause kind es i names at (NameNotFound k name span) h = (h.0, missing_at es i names (record { name = name.now; span = span }) at h.1 h.2)
miss_cause kind es i names at (Cycle k name span) h = h
miss_cause kind es i names at OutOfMemory h = tt

-- ---- rows and their table

-- the rows' needs are the table's
pub needs_same : (t : Table) (g : Rows) → AreRows t g → (i j : ℕ) → Needs g i j ↔ NeedsKey t i j
needs_same t g h i j = (
  (λ need. let r = found_only t (asks t i) (row g i) (h.found i) j need in (r.0, r.1, r.2)),
  (λ need.
      let r = found_all t (asks t i) (row g i) (h.found i) need.0 need.1 in
      let e : r.0 ≡ j = same_Some r.0 j (sym r.2 ∙ need.2) in
      subst (λ (z : ℕ). Has (row g i) z) e r.1),
)

pub rows_below : (t : Table) (g : Rows) → AreRows t g → AreBelow g (length g)
rows_below t g h i j need =
    let r = found_only t (asks t i) (row g i) (h.found i) j need in
    let k : j < length t = r.3 in
    let s : length g ≡ length t = h.size in omega arith

pub rows_found : (t : Table) (g : Rows) → AreRows t g → AreAllThere t
rows_found t g h a miss =
    let r = found_all t (asks t miss.0) (row g miss.0) (h.found miss.0) a miss.1 in
    let e : Some r.0 ≡ None = sym r.2 ∙ miss.2 in
    cc

pub toposort_from : (t : Table) (g : Rows) (order : List ℕ) (names : List (List ℕ)) → AreRows t g → IsSorted g order → AreKeysAt t order names → IsToposort t names
toposort_from t g order names h s at = record {
  order = order;
  keys = at;
  least = subst (λ (n : ℕ). IsLeastOrder n (NeedsKey t) order) h.size (least_same (length g) (Needs g) (NeedsKey t) (needs_same t g h) order s.least);
  found = rows_found t g h;
  no_circle = λ i circle. s.no_circle i (circle.0, leads_same (length g) (NeedsKey t) (Needs g) (λ a b. (needs_same t g h a b).1) i circle.0 i circle.1);
}

-- the length of a table isn't looked at by what leads where
leads_sized : (n m : ℕ) (needs : ℕ → ℕ → Type 0) (a : ℕ) (via : List ℕ) (b : ℕ) → Leads n needs a via b → Leads m needs a via b
leads_sized n m needs a [] b path = path
leads_sized n m needs a (c ∷ via) b path = (path.0, leads_sized n m needs c via b path.1)

pub circle_within : (t : Table) (g : Rows) → AreRows t g → (i need : ℕ) → IsCircle g i need → (need < length (asks t i)) × (i < length t)
circle_within t g h i need circle =
    let less : need < length (asks t i) = (found_at t (asks t i) (row g i) (h.found i) need circle.need).0 in (
      less,
      elim (cases_lt i (length t)) as (λ _. i < length t) [
        | inl l ↦ l
        | inr more ↦ (let e : length (asks t i) ≡ 0 = ap length (asks_past t i more) in absurd (omega arith))
      ],
    )

pub closes_circle : (t : Table) (g : Rows) → AreRows t g → (i need : ℕ) → IsCircle g i need → (a : Ask) → slice_get (asks t i) need ≡ Some a → ClosesCircle t a
closes_circle t g h i need circle a e =
    let r = (found_at t (asks t i) (row g i) (h.found i) need circle.need).1 a e in
    let to : ℕ = get_or (row g i) need 0 in
    record {
      from = i;
      to = to;
      asked = r.0;
      place = r.1;
      back = elim circle.back as (λ _. (to ≡ i) ⊎ ((via : List ℕ) × Leads (length t) (NeedsKey t) to via i)) [
        | inl same ↦ inl same
        | inr path ↦ inr (
          path.0,
          leads_sized (length g) (length t) (NeedsKey t) to path.0 i (leads_same (length g) (Needs g) (NeedsKey t) (λ a b. (needs_same t g h a b).0) to path.0 i path.1),
        )
      ];
    }

-- ---- the keys at places

keys_more : (t : Table) (order : List ℕ) (k : ℕ) (names : List (Bor (List ℕ))) (n : Bor (List ℕ)) → k < length order
    → AreKeysAt t (take k order) (texts names) → slice_get (key_list t) (get_or order k 0) ≡ Some n.now → AreKeysAt t (take (suc k) order) (texts (names ++ n ∷ []))
keys_more t [] k names n l h e = absurd (omega arith)
keys_more t (p ∷ ps) zero [] n l h e = (e, tt)
keys_more t (p ∷ ps) zero (m ∷ names) n l h e = absurd h
keys_more t (p ∷ ps) (suc k) [] n l h e = absurd h
keys_more t (p ∷ ps) (suc k) (m ∷ names) n l h e = (h.0, keys_more t ps k names n (omega arith) h.1 e)

-- one more key is read
pub keys_step : (t : Table) (order : List ℕ) (k : ℕ) (names : List (Bor (List ℕ))) (n : Bor (List ℕ)) → k < length order
    → AreKeysAt t (take k order) (texts names) → slice_get (key_list t) (get_or order k 0) ≡ Some n.now → AreKeysAt t (take (k + 1) order) (texts (names ++ n ∷ []))
keys_step t order k names n l h e = subst (λ (z : ℕ). AreKeysAt t (take z order) (texts (names ++ n ∷ []))) (sym (add-one k)) (keys_more t order k names n l h e)

-- ---- the laws

place_same : (t u : Table) (name : List ℕ) → key_list t ≡ key_list u → place_of t name ≡ place_of u name
place_same t u name e = ap (λ (ks : List (List ℕ)). position (bytes_eq name) ks) e

size_same : (t u : Table) → AreAlike t u → length t ≡ length u
size_same t u h = sym (length-map t (λ e. e.0)) ∙ ap length h.keys ∙ length-map u (λ e. e.0)

alike_back : (t u : Table) → AreAlike t u → AreAlike u t
alike_back t u h = record { keys = sym h.keys; names = λ i name. ((h.names i name).1, (h.names i name).0) }

key_need : (t u : Table) → AreAlike t u → (i j : ℕ) → NeedsKey t i j → NeedsKey u i j
key_need t u h i j need =
    let r = (h.names i need.0.name).0 (need.0, need.1, refl) in
    (r.0, r.1, ap (place_of u) r.2 ∙ sym (place_same t u need.0.name h.keys) ∙ need.2)

key_needs_same : (t u : Table) → AreAlike t u → (i j : ℕ) → NeedsKey t i j ↔ NeedsKey u i j
key_needs_same t u h i j = (key_need t u h i j, key_need u t (alike_back t u h) i j)

missing_same : (t u : Table) → AreAlike t u → (a : Ask) → IsMissing t a → (b : Ask) × IsMissing u b
missing_same t u h a miss =
    let r = (h.names miss.0 a.name).0 (a, miss.1, refl) in
    (r.0, (miss.0, r.1, ap (place_of u) r.2 ∙ sym (place_same t u a.name h.keys) ∙ miss.2))

lacks_same : (t u : Table) → AreAlike t u → (name : List ℕ) → LacksName t name → LacksName u name
lacks_same t u h name (a, miss, is) =
    let r = (h.names miss.0 a.name).0 (a, miss.1, refl) in
    (r.0, (miss.0, r.1, ap (place_of u) r.2 ∙ sym (place_same t u a.name h.keys) ∙ miss.2), r.2 ∙ is)

circle_same : (t u : Table) → AreAlike t u → HasCircle t → HasCircle u
circle_same t u h (a, closes) =
    let need = key_need t u h closes.from closes.to (a, closes.asked, closes.place) in (
      need.0,
      record {
        from = closes.from;
        to = closes.to;
        asked = need.1;
        place = need.2;
        back = elim closes.back as (λ _. (closes.to ≡ closes.from) ⊎ ((via : List ℕ) × Leads (length u) (NeedsKey u) closes.to via closes.from)) [
          | inl same ↦ inl same
          | inr path ↦ inr (
            path.0,
            leads_sized (length t) (length u) (NeedsKey u) closes.to path.0 closes.from (leads_same (length t) (NeedsKey t) (NeedsKey u) (key_need t u h) closes.to path.0 closes.from path.1),
          )
        ];
      },
    )

keys_at_same : (t u : Table) → key_list t ≡ key_list u → (order : List ℕ) (names : List (List ℕ)) → AreKeysAt t order names → AreKeysAt u order names
keys_at_same t u e [] [] h = tt
keys_at_same t u e [] (n ∷ ns) h = h
keys_at_same t u e (p ∷ ps) [] h = h
keys_at_same t u e (p ∷ ps) (n ∷ ns) h = (subst (λ (ks : List (List ℕ)). slice_get ks p ≡ Some n) e h.0, keys_at_same t u e ps ns h.1)

-- what is an order of the one is an order of the other
toposort_same : (t u : Table) → AreAlike t u → (names : List (List ℕ)) → IsToposort t names → IsToposort u names
toposort_same t u h names s = record {
  order = s.order;
  keys = keys_at_same t u h.keys s.order names s.keys;
  least = subst (λ (n : ℕ). IsLeastOrder n (NeedsKey u) s.order) (size_same t u h) (least_same (length t) (NeedsKey t) (NeedsKey u) (key_needs_same t u h) s.order s.least);
  found = λ a miss. (let r = missing_same u t (alike_back t u h) a miss in s.found r.0 r.1);
  no_circle = λ i circle. s.no_circle i (
    circle.0,
    leads_same (length t) (NeedsKey u) (NeedsKey t) (λ a b. (key_needs_same t u h a b).1) i circle.0 i
        (leads_sized (length u) (length t) (NeedsKey u) i circle.0 i circle.1),
  );
}

keys_at_one : (t : Table) (order : List ℕ) (xs ys : List (List ℕ)) → AreKeysAt t order xs → AreKeysAt t order ys → xs ≡ ys
keys_at_one t [] [] [] h k = refl
keys_at_one t [] [] (y ∷ ys) h k = absurd k
keys_at_one t [] (x ∷ xs) ys h k = absurd h
keys_at_one t (p ∷ ps) [] ys h k = absurd h
keys_at_one t (p ∷ ps) (x ∷ xs) [] h k = absurd k
keys_at_one t (p ∷ ps) (x ∷ xs) (y ∷ ys) h k =
    let e : x ≡ y = same_Some x y (sym h.0 ∙ k.0) in
    let r : xs ≡ ys = keys_at_one t ps xs ys h.1 k.1 in
    cc

-- a table has one such order
toposort_one : (t : Table) (xs ys : List (List ℕ)) → IsToposort t xs → IsToposort t ys → xs ≡ ys
toposort_one t xs ys h k =
    let e : h.order ≡ k.order = least_one (length t) (NeedsKey t) (NeedsKey t) (λ i j. ((λ n. n), (λ n. n))) h.order k.order h.least k.least in
    keys_at_one t k.order xs ys (subst (λ (o : List ℕ). AreKeysAt t o xs) e h.keys) k.keys

pub order_is_of_the_set : OrderIsOfTheSet
order_is_of_the_set = record {
  alike = λ t u names h. (toposort_same t u h names, toposort_same u t (alike_back t u h) names);
  missing = λ t u name h. (lacks_same t u h name, lacks_same u t (alike_back t u h) name);
  circles = λ t u h. (circle_same t u h, circle_same u t (alike_back t u h));
  one = toposort_one;
}

circle_leads : (t : Table) (a : Ask) → ClosesCircle t a → (i : ℕ) × (place_of t a.name ≡ Some i) × IsOnCircle (length t) (NeedsKey t) i
circle_leads t a h =
    let need : NeedsKey t h.from h.to = (a, h.asked, h.place) in (
      h.to,
      h.place,
      elim h.back as (λ _. IsOnCircle (length t) (NeedsKey t) h.to) [
        | inl same ↦ ([], subst (λ (z : ℕ). NeedsKey t z h.to) (sym same) need)
        | inr path ↦ (path.0 ++ h.from ∷ [], leads_more (length t) (NeedsKey t) h.to path.0 h.from h.to path.1 need)
      ],
    )

none_of : (t : Table) (fault : OrderFault) (names : List (List ℕ)) → IsFaultOf t fault → IsToposort t names → ⊥
none_of t (NameNotFound k name span) names h s = s.found (record { name = name.now; span = span }) h
none_of t (Cycle k name span) names h s = let r = circle_leads t (record { name = name.now; span = span }) h in s.no_circle r.0 r.2
none_of t OutOfMemory names h s = h

pub fault_denies_an_order : FaultDeniesAnOrder
fault_denies_an_order = record { none = none_of; circle = circle_leads }
