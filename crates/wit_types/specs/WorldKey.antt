-- What the items of a world are known by (WIT, Item: `world`).
use Rattle.std.specs.Prelude.{◌≡◌, ◌↔◌, ℕ, Bool, false, List, ◌++◌, nat_eq, bytes_eq, string_bytes, codes, IsTrue}
use Rattle.std.specs.Bool.{Decides}
use Rattle.std.specs.Cmp.{IsEquivalence, IsPartialEquivalence, decided, on_equiv, partial_equiv_from_equiv, unsigned_Decides}
use Rattle.std.specs.Cmp.Lexicographic.{pointwise_decides}
use Rattle.std.specs.Fmt.{decimal}
use Rattle.std.specs.Hash as fed
use Rattle.std.proofs.Common.{ap}
use Rattle.wit_types.specs.declared.world_key.WorldKey.{WorldKey}
use Rattle.wit_types.specs.declared.world_key.WorldKey.TheVariants.{Name, Interface}

abbrev pub IsName : WorldKey → Type 0
IsName (Name n) = Unit {0}
IsName (Interface id) = ⊥

-- a key by its spelling, or by the interface's place
pub data Known : Type 0 where
  spelled : List ℕ → Known
  placed : ℕ → Known

abbrev pub known : WorldKey → Known
known (Name n) = spelled (string_bytes n)
known (Interface id) = placed id

abbrev pub known_eq : Known → Known → Bool
known_eq (spelled a) (spelled b) = bytes_eq a b
known_eq (spelled a) (placed b) = false
known_eq (placed a) (spelled b) = false
known_eq (placed a) (placed b) = nat_eq a b

-- two keys are one key: they are spelled alike, or are one interface
abbrev pub key_eq : WorldKey → WorldKey → Bool
key_eq a b = known_eq (known a) (known b)

-- the test says whether two are the same
pub known_eq-Decides : (x y : Known) → Decides (known_eq x y) (x ≡ y)
known_eq-Decides (spelled a) (spelled b) =
    let d = pointwise_decides unsigned_Decides a b in
    (λ e. ap spelled (d.0 e), λ e. d.1 (cc))
known_eq-Decides (spelled a) (placed b) = (λ e. cc, λ e. cc)
known_eq-Decides (placed a) (spelled b) = (λ e. cc, λ e. cc)
known_eq-Decides (placed a) (placed b) =
    let d = unsigned_Decides a b in
    (λ e. ap placed (d.0 e), λ e. d.1 (cc))

pub key_eq-equivalence : IsEquivalence key_eq
key_eq-equivalence = on_equiv known (decided known_eq known_eq-Decides)

pub key_eq-partial : IsPartialEquivalence key_eq
key_eq-partial = partial_equiv_from_equiv key_eq-equivalence

abbrev pub known_input : Known → List (List ℕ)
known_input (spelled a) = fed.u8 0 ++ fed.str a
known_input (placed a) = fed.u8 1 ++ fed.usize a

-- what a key feeds a hasher
abbrev pub key_input : WorldKey → List (List ℕ)
key_input k = known_input (known k)

pub key_input-respects : (x y : WorldKey) → IsTrue (key_eq x y) → key_input x ≡ key_input y
key_input-respects x y h = ap known_input ((known_eq-Decides (known x) (known y)).0 h)

abbrev pub known_text : Known → List ℕ
known_text (spelled a) = a
known_text (placed a) = codes "interface-" ++ decimal a

abbrev pub key_text : WorldKey → List ℕ
key_text k = known_text (known k)

-- two keys are one
abbrev pub AreOne : WorldKey → WorldKey → Type 0
AreOne (Name a) (Name b) = string_bytes a ≡ string_bytes b
AreOne (Name a) (Interface id) = ⊥
AreOne (Interface id) (Name b) = ⊥
AreOne (Interface id) (Interface other) = id ≡ other

-- the test says whether two are one, and such feed a hasher alike
pub record KeysAreLawful : Type 0 where
  pub equal : (a b : WorldKey) → IsTrue (key_eq a b) ↔ AreOne a b
  pub alike : (a b : WorldKey) → AreOne a b → key_input a ≡ key_input b
