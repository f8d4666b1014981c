-- What `use` statements at the top of files ask of other packages (WIT, Use, Top-Level Use).
use Rattle.std.specs.Prelude.{Bool, true, false, ◌&&◌, List, [], ◌∷◌, ◌++◌, flat_map, None, if◌then◌else◌}
use Rattle.wit_words.specs.Slice.{Slice}
use Rattle.wit_syntax.specs.Ast.{PackageNameTree, ToplevelUseTree, FileTree}
use Rattle.wit_scopes.specs.Paths.{TargetTree, own, foreign, by_itself, same_text, same_package, file_uses}
use Rattle.wit_scopes.specs.Scopes.{package_scopes}
use Rattle.wit_checked_lookups.specs.Passed.wit_lookups-declared-asks-Asked.{Asked}
use Rattle.wit_checked_lookups.specs.Passed.wit_lookups-declared-asks-Asked-TheVariants.{Interface, World}
use Rattle.wit_placeholders.specs.Passed.wit_foreign-Needs.{NeedTree, path_needs, needs_in}

abbrev pub is_world : Asked → Bool
is_world Interface = false
is_world World = true

-- it asks for that item of that package as a world
abbrev pub asks_for_world : PackageNameTree → Slice → NeedTree → Bool
asks_for_world p i n = same_package p n.«package» && (same_text i n.item && is_world n.asked)

-- a statement at the top names something without saying what it is: a world where it is asked for as one besides, else an interface
abbrev pub asked_among : PackageNameTree → Slice → List NeedTree → Asked
asked_among p i [] = Interface
asked_among p i (n ∷ ns) = if asks_for_world p i n then World else asked_among p i ns

abbrev pub asked_in : List NeedTree → TargetTree → Asked
asked_in needs (own n) = Interface
asked_in needs (foreign p i) = asked_among p i needs

-- what one asks for in a package of that name, where this is asked for besides; gates in front of it mean nothing
abbrev pub top_needs : PackageNameTree → List NeedTree → ToplevelUseTree → List NeedTree
top_needs me needs u = path_needs (asked_in needs (by_itself me u.item)) None [] (by_itself me u.item)

abbrev pub files_top_needs : PackageNameTree → List NeedTree → List (List ToplevelUseTree) → List NeedTree
files_top_needs me needs uses = flat_map (λ (us : List ToplevelUseTree). flat_map (top_needs me needs) us) uses

-- what they ask for comes first
abbrev pub with_top_uses : PackageNameTree → List (List ToplevelUseTree) → List NeedTree → List NeedTree
with_top_uses me uses needs = files_top_needs me needs uses ++ needs

-- all that the files of a package ask of others
abbrev pub files_need : PackageNameTree → List FileTree → List NeedTree
files_need me files = with_top_uses me (file_uses files) (needs_in (package_scopes me files))
