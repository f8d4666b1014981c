-- Names that need one another: what an order of them is, and why there is none.
use Rattle.std.specs.Prelude.{◌≡◌, ℕ, ◌<◌, ◌⊎◌, zero, suc, List, [], ◌∷◌, length, Vec, Option, Some, None, map, position, slice_get, ◌↔◌, bytes_eq}
use Rattle.std.specs.Borrow.{Bor}
use Rattle.std.specs.declared.alloc.Global.{Global}
use Rattle.wit_words.specs.declared.source_map.Span.{Span}
use Rattle.wit_order.specs.Order.{Has, Leads, IsOnCircle, IsLeastOrder}
use Rattle.wit_order.specs.Places.{Rows, row}
use Rattle.wit_order.specs.declared.names.Need.{Need}
use Rattle.wit_order.specs.declared.fault.OrderFault.{OrderFault}
use Rattle.wit_order.specs.declared.fault.OrderFault.TheVariants.{NameNotFound, Cycle, OutOfMemory}

-- a name that a key needs, and where it stands
pub record Ask : Type 0 where
  pub name : List ℕ
  pub span : Span

-- each key, with what it needs
abbrev pub Table : Type 0
Table = List (List ℕ × List Ask)

abbrev pub key_list : Table → List (List ℕ)
key_list t = map (λ e. e.0) t

-- what the key at a place needs
abbrev pub asks : Table → ℕ → List Ask
asks [] i = []
asks (e ∷ es) zero = e.1
asks (e ∷ es) (suc i) = asks es i

-- the place of a name among the keys
abbrev pub place_of : Table → List ℕ → Option ℕ
place_of t name = position (bytes_eq name) (key_list t)

-- the key at place i needs the key at place j
abbrev pub NeedsKey : Table → ℕ → ℕ → Type 0
NeedsKey t i j = (a : Ask) × Has (asks t i) a × (place_of t a.name ≡ Some j)

-- a key needs that name, there, which is no key
abbrev pub IsMissing : Table → Ask → Type 0
IsMissing t a = (i : ℕ) × Has (asks t i) a × (place_of t a.name ≡ None)

-- no key needs a name that is no key
abbrev pub AreAllThere : Table → Type 0
AreAllThere t = (a : Ask) → IsMissing t a → ⊥

-- a key needs that name, there, which is that key or leads back to it
pub record ClosesCircle (t : Table) (a : Ask) : Type 0 where
  pub from : ℕ
  pub to : ℕ
  pub asked : Has (asks t from) a
  pub place : place_of t a.name ≡ Some to
  pub back : (to ≡ from) ⊎ ((via : List ℕ) × Leads (length t) (NeedsKey t) to via from)

-- the names are the keys at those places
abbrev pub AreKeysAt : Table → List ℕ → List (List ℕ) → Type 0
AreKeysAt t [] [] = Unit {0}
AreKeysAt t [] (n ∷ ns) = ⊥
AreKeysAt t (p ∷ ps) [] = ⊥
AreKeysAt t (p ∷ ps) (n ∷ ns) = (slice_get (key_list t) p ≡ Some n) × AreKeysAt t ps ns

-- the keys in the least order, where each needed name is a key and none leads back to itself
pub record IsToposort (t : Table) (names : List (List ℕ)) : Type 0 where
  pub order : List ℕ
  pub keys : AreKeysAt t order names
  pub least : IsLeastOrder (length t) (NeedsKey t) order
  pub found : AreAllThere t
  pub no_circle : (i : ℕ) → IsOnCircle (length t) (NeedsKey t) i → ⊥

-- the sentence of a refusal: a missing name comes before a circle
abbrev pub IsOrderCause : List ℕ → Table → OrderFault → Type 0
IsOrderCause kind t (NameNotFound k name span) = (k.now ≡ kind) × IsMissing t (record { name = name.now; span = span })
IsOrderCause kind t (Cycle k name span) = (k.now ≡ kind) × AreAllThere t × ClosesCircle t (record { name = name.now; span = span })
IsOrderCause kind t OutOfMemory = Unit {0}

-- ---- a map of names is a table

abbrev pub ask : Need → Ask
ask d = record { name = d.name.now; span = d.span }

abbrev pub asks_of : List Need → List Ask
asks_of needs = map ask needs

abbrev pub Entries : Type 0
Entries = List (Bor (List ℕ) × Vec Need Global)

abbrev pub table : Entries → Table
table entries = map (λ e. (e.0.now, asks_of e.1.items)) entries

abbrev pub texts : List (Bor (List ℕ)) → List (List ℕ)
texts names = map (λ n. n.now) names

-- ---- steps of the way there

-- the places of what is asked
abbrev pub AreFound : Table → List Ask → List ℕ → Type 0
AreFound t [] [] = Unit {0}
AreFound t [] (p ∷ ps) = ⊥
AreFound t (a ∷ more) [] = ⊥
AreFound t (a ∷ more) (p ∷ ps) = (place_of t a.name ≡ Some p) × (p < length t) × AreFound t more ps

-- one of the names is no key, or memory is wanting
abbrev pub IsLookCause : List ℕ → Table → List Ask → OrderFault → Type 0
IsLookCause kind t wanted (NameNotFound k name span) = (k.now ≡ kind) × Has wanted (record { name = name.now; span = span }) × (place_of t name.now ≡ None)
IsLookCause kind t wanted (Cycle k name span) = ⊥
IsLookCause kind t wanted OutOfMemory = Unit {0}

-- the same of some key's names
abbrev pub IsMissCause : List ℕ → Table → OrderFault → Type 0
IsMissCause kind t (NameNotFound k name span) = (k.now ≡ kind) × IsMissing t (record { name = name.now; span = span })
IsMissCause kind t (Cycle k name span) = ⊥
IsMissCause kind t OutOfMemory = Unit {0}

-- the rows are the table's, by place
pub record AreRows (t : Table) (g : Rows) : Type 0 where
  pub size : length g ≡ length t
  pub found : (i : ℕ) → AreFound t (asks t i) (row g i)

-- ---- laws

-- some need of the list is of that name
abbrev pub HasName : List Ask → List ℕ → Type 0
HasName wanted name = (a : Ask) × Has wanted a × (a.name ≡ name)

-- equal keys in equal order, and at each key the same set of names
pub record AreAlike (t u : Table) : Type 0 where
  pub keys : key_list t ≡ key_list u
  pub names : (i : ℕ) (name : List ℕ) → HasName (asks t i) name ↔ HasName (asks u i) name

-- a key needs that name, and it is no key
abbrev pub LacksName : Table → List ℕ → Type 0
LacksName t name = (a : Ask) × IsMissing t a × (a.name ≡ name)

-- a name that a key needs leads back to that key
abbrev pub HasCircle : Table → Type 0
HasCircle t = (a : Ask) × ClosesCircle t a

-- tables that are alike have orders alike, lack the same names, and have circles both or neither; and a table has at most one order
pub record OrderIsOfTheSet : Type 0 where
  pub alike : (t u : Table) (names : List (List ℕ)) → AreAlike t u → IsToposort t names ↔ IsToposort u names
  pub missing : (t u : Table) (name : List ℕ) → AreAlike t u → LacksName t name ↔ LacksName u name
  pub circles : (t u : Table) → AreAlike t u → HasCircle t ↔ HasCircle u
  pub one : (t : Table) (names others : List (List ℕ)) → IsToposort t names → IsToposort t others → names ≡ others

-- what a fault says of a table, but for want of memory
abbrev pub IsFaultOf : Table → OrderFault → Type 0
IsFaultOf t (NameNotFound k name span) = IsMissing t (record { name = name.now; span = span })
IsFaultOf t (Cycle k name span) = ClosesCircle t (record { name = name.now; span = span })
IsFaultOf t OutOfMemory = ⊥

pub record FaultDeniesAnOrder : Type 0 where
  pub none : (t : Table) (fault : OrderFault) (names : List (List ℕ)) → IsFaultOf t fault → IsToposort t names → ⊥
  pub circle : (t : Table) (a : Ask) → ClosesCircle t a → (i : ℕ) × (place_of t a.name ≡ Some i) × IsOnCircle (length t) (NeedsKey t) i
