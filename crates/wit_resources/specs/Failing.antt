-- The same of types as they stand in an arena.
use Rattle.std.specs.Prelude.{◌≡◌, ℕ, true, false, List, Option}
use Rattle.wit_words.specs.declared.source_map.Span.{Span}
use Rattle.wit_words.specs.Slice.{Slice}
use Rattle.wit_types.specs.declared.kind.«Type».{«Type» as Ref}
use Rattle.wit_types.specs.declared.kind.«Type».TheVariants.{Id}
use Rattle.wit_rules.specs.declared.fault.PackageRule.{PackageRule}
use Rattle.wit_rules.specs.declared.fault.PackageRule.TheVariants.{BorrowInResult, BadHandle}
use Rattle.wit_arena.specs.Tree.{Name}
use Rattle.wit_arena.specs.Table.{Entries}
use Rattle.wit_arena.specs.Meaning.{Has}
use Rattle.wit_resources.specs.Natures.{ref_nature, part_holds}
use Rattle.wit_resources.specs.declared.natures.Nature.{Nature}

-- no name has two types
abbrev pub AreDistinct : Entries → Type 0
AreDistinct table = (x : Name) (i j : ℕ) → Has table (x, i) → Has table (x, j) → i ≡ j

-- what stands under the name is no resource
pub record HandleFails (ns : List Nature) (table : Entries) (x : Slice) (rule : PackageRule) (at : Span) : Type 0 where
  pub rule_is : rule ≡ BadHandle
  pub type_id : ℕ
  pub entry : Has table (x.text, type_id)
  pub other : (ref_nature ns (Id type_id)).is_resource ≡ false
  pub stands : x.span ≡ at

-- the result holds what is lent
pub record ResultFails (ns : List Nature) (r : Option Ref) (span : Span) (rule : PackageRule) (at : Span) : Type 0 where
  pub rule_is : rule ≡ BorrowInResult
  pub holds : part_holds ns r ≡ true
  pub stands : span ≡ at
