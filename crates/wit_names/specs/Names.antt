-- Interfaces by texts (WIT, Package Names; Component Model, Import and Export Definitions).
use Rattle.std.specs.Prelude.{◌≡◌, ℕ, ◌<◌, List, ◌++◌, Option, Some, None, String, codes, string_bytes, length, slice_get}
use Rattle.std.specs.declared.alloc.Global.{Global}
use Rattle.semver.specs.Identifiers.{parts_of, version_text}
use Rattle.semver.specs.declared.Version.{Version}
use Rattle.wit_types.specs.declared.interface.Interface.{Interface}
use Rattle.wit_types.specs.declared.«package».Package.{Package}
use Rattle.wit_types.specs.declared.«package».PackageName.{PackageName}
use Rattle.wit_types.specs.declared.world_key.WorldKey.{WorldKey}
use Rattle.wit_types.specs.declared.world_key.WorldKey.TheVariants as key
use Rattle.wit_types.specs.Track.{track_text, IsSuffix}

-- ---- texts

-- a text, and then `@` and the track of the version, where there is one
abbrev pub with_track : List ℕ → Option Version → List ℕ
with_track text None = text
with_track text (Some v) = text ++ (codes "@" ++ track_text (parts_of v))

abbrev pub canonical_text : PackageName → List ℕ → List ℕ
canonical_text p interface = string_bytes p.namespace ++ (codes ":" ++ (string_bytes p.name ++ (codes "/" ++ with_track interface p.version)))

-- ---- interfaces

-- packages are known to which interfaces belong
abbrev pub ArePackagesKnown : List Package → List Interface → Type 0
ArePackagesKnown packages interfaces = (i p : ℕ) (d : Interface) → slice_get interfaces i ≡ Some d → d.«package» ≡ Some p → p < length packages

-- the text by which one is known that has a name and a package: some text of these
abbrev pub text_at : (PackageName → List ℕ → List ℕ) → Option Package → List ℕ → Option (List ℕ)
text_at text None name = None
text_at text (Some p) name = Some (text p.name name)

abbrev pub named_in : (PackageName → List ℕ → List ℕ) → List Package → Option ℕ → Option (String Global) → Option (List ℕ)
named_in text packages p None = None
named_in text packages None (Some name) = None
named_in text packages (Some p) (Some name) = text_at text (slice_get packages p) (string_bytes name)

abbrev pub text_of : (PackageName → List ℕ → List ℕ) → List Package → Interface → Option (List ℕ)
text_of text packages d = named_in text packages d.«package» d.name

-- of the interface with an id
abbrev pub IsTextOf : (PackageName → List ℕ → List ℕ) → List Package → List Interface → ℕ → Option (List ℕ) → Type 0
IsTextOf text packages interfaces i found = (d : Interface) × (slice_get interfaces i ≡ Some d) × (found ≡ text_of text packages d)

-- ---- keys

-- a plain name, or the text of an interface
abbrev pub IsKeyText : (PackageName → List ℕ → List ℕ) → List Package → List Interface → WorldKey → Option (List ℕ) → Type 0
IsKeyText text packages interfaces (key.Name name) found = found ≡ Some (string_bytes name)
IsKeyText text packages interfaces (key.Interface i) found = IsTextOf text packages interfaces i found

abbrev pub IsKeyThere : List Interface → WorldKey → Type 0
IsKeyThere interfaces (key.Name name) = Unit {0}
IsKeyThere interfaces (key.Interface i) = i < length interfaces

-- ---- versions

-- what stands behind the track in the version of the interface's package, where something does
abbrev pub IsVersionSuffix : Option Version → Option (String Global) → Type 0
IsVersionSuffix None s = s ≡ None
IsVersionSuffix (Some v) s = IsSuffix (version_text v) (track_text (parts_of v)) s
