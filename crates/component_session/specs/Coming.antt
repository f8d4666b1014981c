-- Files of groups that were read from their texts (WIT, Packages).
use Rattle.std.specs.Prelude.{List, map}
use Rattle.text_graphs.specs.Passed.wit_resolution-Groups.{UnresolvedPackageGroup}
pub use Rattle.text_graphs.specs.Passed.wit_resolve_errors-declared-error-ResolveErrorKind.{ResolveErrorKind}
use Rattle.wit_words.specs.Sources.{SourceText}

-- the files of groups, each of which was read from its texts
abbrev pub files_of_groups : List UnresolvedPackageGroup → List (List SourceText)
files_of_groups gs = map (λ (g : UnresolvedPackageGroup). g.source_map) gs
