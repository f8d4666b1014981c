-- The byte of an entry's section stands for its kind.
use Rattle.std.proofs.Common.{◌≡◌, refl}
use Rattle.component_entries.specs.declared.entry.EntryKind.{EntryKind}
use Rattle.component_entries.specs.declared.entry.EntryKind.TheVariants as kinds
use Rattle.component_entries.specs.Entries.{kind_byte, kind_of, entry_behind, entry_by}

pub kind_again : (k : EntryKind) → entry_behind (kind_of (kind_byte k)) ≡ entry_by k
unfolding kind_of
kind_again kinds.Alias = refl
kind_again kinds.Type_ = refl
kind_again kinds.Import = refl
kind_again kinds.Export = refl
