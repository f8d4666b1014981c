-- The texts of package names and of the keys of interfaces (WIT, Package Names; Component Model, Import and Export Definitions).
use Rattle.std.specs.Prelude.{ℕ, List, ◌++◌, Option, Some, None, codes, string_bytes}
use Rattle.semver.specs.Identifiers.{version_text}
use Rattle.semver.specs.declared.Version.{Version}
use Rattle.wit_types.specs.declared.package.PackageName.{PackageName}

-- a text, and then `@` and the version, where there is one
abbrev pub with_version : List ℕ → Option Version → List ℕ
with_version text None = text
with_version text (Some v) = text ++ (codes "@" ++ version_text v)

abbrev pub package_text : PackageName → List ℕ
package_text p = string_bytes p.namespace ++ (codes ":" ++ with_version (string_bytes p.name) p.version)

abbrev pub interface_text : PackageName → List ℕ → List ℕ
interface_text p interface = string_bytes p.namespace ++ (codes ":" ++ (string_bytes p.name ++ (codes "/" ++ with_version interface p.version)))
