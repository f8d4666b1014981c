-- A core import stands for one thing.
use Rattle.std.proofs.Common.{◌≡◌, ℕ, Option, Some, None, sym, ap, ◌∙◌}
use Rattle.std.proofs.lemmas.Option.{same_Some}
use Rattle.std.specs.Prelude.{slice_get}
use Rattle.wasm_types.specs.Entries.{ImportValue}
use Rattle.wit_types.specs.declared.function.Function.{Function}
use Rattle.wit_types.specs.declared.world_key.WorldKey.{WorldKey}
use Rattle.core_links.specs.Passed.wit_core_items-World.{core_imports}
use Rattle.wit_core_names.specs.Items.{CoreImport}
use Rattle.wit_core_names.specs.declared.items.ResourceIntrinsic.{ResourceIntrinsic}
use Rattle.core_links.specs.Names.{Names}
use Rattle.core_links.specs.Imports.{StandsFor}
use Rattle.link_table.specs.Linking.{StandsForFunction}

pub stands_for_one : (n : Names) (i : ImportValue) (x y : CoreImport) → StandsFor n i x → StandsFor n i y → x ≡ y
stands_for_one n i x y s r =
    let same : s.place ≡ r.place = r.means.only s.place s.means.stands in
    same_Some x y (sym s.is ∙ ap (slice_get (core_imports n.known n.world)) same ∙ r.is)

abbrev function_of : CoreImport → Function → Function
function_of (CoreImport.func key f) g = f
function_of (CoreImport.intrinsic key resource what) g = g

pub one_function : (n : Names) (i : ImportValue) (key other : Option WorldKey) (f g : Function) → StandsForFunction n i key f → StandsForFunction n i other g → f ≡ g
one_function n i key other f g s r = ap (λ (x : CoreImport). function_of x f) (stands_for_one n i (CoreImport.func key f) (CoreImport.func other g) s r)

abbrev is_function_import : CoreImport → Option Function
is_function_import (CoreImport.func key f) = Some f
is_function_import (CoreImport.intrinsic key resource what) = None

pub no_intrinsic : (n : Names) (i : ImportValue) (key other : Option WorldKey) (f : Function) (resource : ℕ) (what : ResourceIntrinsic) → StandsForFunction n i key f → StandsFor n i (CoreImport.intrinsic other resource what) → ⊥
no_intrinsic n i key other f resource what s r =
    absurd (let e : Some f ≡ None = ap is_function_import (stands_for_one n i (CoreImport.func key f) (CoreImport.intrinsic other resource what) s r) in cc)
