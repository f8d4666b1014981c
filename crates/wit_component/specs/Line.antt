-- The lines of this shape: what one core import, or one exported function, ends at (Canonical ABI, canon lift and canon lower).
use Rattle.std.specs.Prelude.{ℕ, List, Some, None, codes}
use Rattle.link_lines.specs.declared.line.LinkSide.TheVariants.{Import, Export}
use Rattle.link_lines.specs.declared.line.LinkKind.TheVariants.{Lower, Core}
use Rattle.link_lines.specs.Line.{LinkValue}
use Rattle.wit_component.specs.CoreNames.{root}

-- a core import, by its two texts, that ends in the lowering of a function of the world: that asks for no memory, no realloc and no
-- encoding in this shape
abbrev pub import_line : List ℕ → List ℕ → List ℕ → LinkValue
import_line place name function = record {
  side = Import;
  owner = None;
  «module» = Some place;
  name = Some name;
  kind = Lower;
  place = Some root;
  item = Some function;
  memory = None;
  realloc = None;
  encoding = None;
  post_return = None;
  hook = None;
}

-- a function that is exported, that ends at a core export of the main module
abbrev pub export_line : List ℕ → List ℕ → LinkValue
export_line function name = record {
  side = Export;
  owner = None;
  «module» = Some root;
  name = Some function;
  kind = Core;
  place = Some (codes "main");
  item = Some name;
  memory = None;
  realloc = None;
  encoding = None;
  post_return = None;
  hook = None;
}
