-- Keys that have a text.
use Rattle.std.proofs.Common.{◌≡◌, ℕ, List, Option, Some, None, ap, sym, ◌∙◌}
use Rattle.std.proofs.lemmas.Option.{slice_get_within, same_Some}
use Rattle.std.specs.Prelude.{string_bytes}
use Rattle.wit_names.specs.Passed.wit_types-Package.{interface_text}
use Rattle.wit_names.specs.Passed.wit_types-declared-interface-Interface.{Interface}
use Rattle.wit_names.specs.Passed.wit_types-declared-package-Package.{Package}
use Rattle.wit_names.specs.Passed.wit_types-declared-package-PackageName.{PackageName}
use Rattle.wit_names.specs.Passed.wit_types-declared-world_key-WorldKey.{WorldKey}
use Rattle.wit_names.specs.Passed.wit_types-declared-world_key-WorldKey-TheVariants as key
use Rattle.wit_names.specs.Names.{IsKeyText, IsKeyThere, text_of}
use Rattle.wit_core_names.specs.Texts.{IsKeyNamed}

pub named_there : (packages : List Package) (interfaces : List Interface) (k : WorldKey) → IsKeyNamed packages interfaces k → IsKeyThere interfaces k
named_there packages interfaces (key.Name name) h = tt
named_there packages interfaces (key.Interface i) h = let (t, known) = h interface_text in slice_get_within interfaces i known.0 known.1

-- a key has one text
pub some_text : (text : PackageName → List ℕ → List ℕ) (packages : List Package) (interfaces : List Interface) (k : WorldKey) (found : Option (List ℕ)) → IsKeyNamed packages interfaces k → IsKeyText text packages interfaces k found → found ≡ None → ⊥
some_text text packages interfaces (key.Name name) found h is none = let differ : None ≡ Some (string_bytes name) = sym none ∙ is in absurd cc
some_text text packages interfaces (key.Interface i) found h (d, at, is) none =
    let (t, known) = h text in
    let same : known.0 ≡ d = same_Some known.0 d (sym known.1 ∙ at) in
    let differ : None ≡ Some t = sym none ∙ is ∙ ap (text_of text packages) (sym same) ∙ sym known.2 in
    absurd cc
