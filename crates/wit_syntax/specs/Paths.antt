-- The paths that stand in a file, in the order in which they stand there, and what each is for (WIT, Use, Top-Level Use, Item: `world`).
use Rattle.std.specs.Prelude.{List, [], ◌∷◌, map, flat_map}
use Rattle.wit_syntax.specs.declared.paths.FilePath.{FilePath}
use Rattle.wit_syntax.specs.declared.paths.PathRole.{PathRole}
use Rattle.wit_syntax.specs.declared.paths.PathRole.TheVariants as roles
use Rattle.wit_syntax.specs.Ast as tree
use Rattle.wit_syntax.specs.Ast.{UsePathTree, GatedTree, UseNameTree, UseTree, InterfaceItemTree, ExternTree, WorldItemTree, AstItemTree, FileItemTree, FileTree}
use Rattle.wit_syntax.specs.AstView.{use_name, use_path}

-- an interface or a world that the file or package names; an interface of which these names are taken; one that a world imports or exports; a world that another includes
pub data RoleTree : Type 0 where
  top_level : RoleTree
  names : List UseNameTree → RoleTree
  extern : RoleTree
  include : RoleTree

pub record PathTree : Type 0 where
  pub path : UsePathTree
  pub role : RoleTree

abbrev pub one : UsePathTree → RoleTree → List PathTree
one path role = record { path = path; role = role } ∷ []

-- what this is of each item of a list, one behind the other
abbrev pub of_each : {X : Type 0} → (X → List PathTree) → List (GatedTree X) → List PathTree
of_each f items = flat_map (λ g. f g.item) items

abbrev pub use_paths : UseTree → List PathTree
use_paths u = one u.from (names u.names)

abbrev pub interface_item_paths : InterfaceItemTree → List PathTree
interface_item_paths (tree.InterfaceItemTree.uses u) = use_paths u
interface_item_paths _ = []

abbrev pub interface_paths : List (GatedTree InterfaceItemTree) → List PathTree
interface_paths = of_each interface_item_paths

abbrev pub extern_paths : ExternTree → List PathTree
extern_paths (tree.ExternTree.func f) = []
extern_paths (tree.ExternTree.interface i) = interface_paths i.items
extern_paths (tree.ExternTree.path p) = one p extern

abbrev pub world_item_paths : WorldItemTree → List PathTree
world_item_paths (tree.import e) = extern_paths e
world_item_paths (tree.export e) = extern_paths e
world_item_paths (tree.WorldItemTree.uses u) = use_paths u
world_item_paths (tree.WorldItemTree.type_def d) = []
world_item_paths (tree.include i) = one i.from include

abbrev pub world_paths : List (GatedTree WorldItemTree) → List PathTree
world_paths = of_each world_item_paths

abbrev pub ast_item_paths : AstItemTree → List PathTree
ast_item_paths (tree.AstItemTree.uses u) = one u.item top_level
ast_item_paths (tree.AstItemTree.interface i) = interface_paths i.items
ast_item_paths (tree.AstItemTree.world w) = world_paths w.items

abbrev pub package_paths : List (GatedTree AstItemTree) → List PathTree
package_paths = of_each ast_item_paths

abbrev pub file_item_paths : FileItemTree → List PathTree
file_item_paths (tree.FileItemTree.item i) = ast_item_paths i
file_item_paths (tree.nested p) = package_paths p.items

abbrev pub file_paths : FileTree → List PathTree
file_paths f = of_each file_item_paths f.items

-- ---- the same of what the code has

abbrev pub role : PathRole → RoleTree
role roles.TopLevel = top_level
role (roles.Use taken) = names (map use_name taken.now)
role roles.Extern = extern
role roles.Include = include

abbrev pub path_tree : FilePath → PathTree
path_tree p = record { path = use_path p.path.now; role = role p.role }

abbrev pub paths : List FilePath → List PathTree
paths found = map path_tree found
