-- `table::masks::Masks::of` meets its contract: the masks as they were made are those of the table's groups.
use mathlib.Core.Path.{refl}
use Rattle.table.proofs.TableGroups.{in_room}
use Rattle.table.proofs.Marks.{masks_made}
use Rattle.table.proofs.masks.Masks.of.Goals as goal

pub returns : goal.returns
returns c =
    masks_made (in_room c.args.table) refl refl c.places_to_reach-places.ensures c.rows_to_take-must.ensures
    c.reaching_of-reaching.ensures
