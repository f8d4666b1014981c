use Rattle.std.proofs.Common.{◌≡◌, true, false, Any, map, subst}
use Rattle.wasm_types.specs.Entries.{import_value}
use Rattle.wit_core_names.specs.Texts.{known}
use Rattle.plain_imports.specs.Imports.{IsBeyond}
use Rattle.plain_imports.proofs.imports.imports_fit.Goals as goal

pub returns-clause-yes : goal.returns-clause-yes
returns-clause-yes c =
    subst (λ ns. c.each_fits.result ≡ true → Any (IsBeyond (known c.args.tables.now) c.args.world.now ns) (map import_value c.args.imports.now) → ⊥) c.in_ok-names.ensures c.each_fits.ensures.yes

pub returns-clause-no : goal.returns-clause-no
returns-clause-no c =
    subst (λ ns. c.each_fits.result ≡ false → Any (IsBeyond (known c.args.tables.now) c.args.world.now ns) (map import_value c.args.imports.now)) c.in_ok-names.ensures c.each_fits.ensures.no
