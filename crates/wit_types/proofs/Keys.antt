use Rattle.std.proofs.Common.{◌≡◌, ap, ◌++◌, IsTrue}
use Rattle.std.specs.Hash as fed
use Rattle.wit_types.specs.declared.world_key.WorldKey.{WorldKey}
use Rattle.wit_types.specs.declared.world_key.WorldKey.TheVariants.{Name, Interface}
use Rattle.wit_types.specs.WorldKey.{known, known_eq-Decides, key_eq, key_input, AreOne, KeysAreLawful}

one_of : (a b : WorldKey) → IsTrue (key_eq a b) → AreOne a b
one_of (Name a) (Name b) h = let e = (known_eq-Decides (known (Name a)) (known (Name b))).0 h in cc
one_of (Name a) (Interface id) h = absurd (cc)
one_of (Interface id) (Name b) h = absurd (cc)
one_of (Interface id) (Interface other) h = let e = (known_eq-Decides (known (Interface id)) (known (Interface other))).0 h in cc

of_one : (a b : WorldKey) → AreOne a b → IsTrue (key_eq a b)
of_one (Name a) (Name b) h = (known_eq-Decides (known (Name a)) (known (Name b))).1 (cc)
of_one (Name a) (Interface id) h = absurd h
of_one (Interface id) (Name b) h = absurd h
of_one (Interface id) (Interface other) h = (known_eq-Decides (known (Interface id)) (known (Interface other))).1 (cc)

alike : (a b : WorldKey) → AreOne a b → key_input a ≡ key_input b
alike (Name a) (Name b) h = ap (λ n. fed.u8 0 ++ fed.str n) h
alike (Name a) (Interface id) h = absurd h
alike (Interface id) (Name b) h = absurd h
alike (Interface id) (Interface other) h = ap (λ n. fed.u8 1 ++ fed.usize n) h

pub keys_are_lawful : KeysAreLawful
keys_are_lawful = record { equal = λ a b. (one_of a b, of_one a b); alike = alike }
