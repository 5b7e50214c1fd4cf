-- The store that blocks of any width are.
use Rattle.node_store.specs.declared.Node.{Node}
use Rattle.node_store.specs.declared.shelves.Shelves.{Shelves}
use Rattle.node_store.specs.declared.shelves.Shelves.TheVariants.{One, Two, Three, Four, Five, Six, Seven, Eight}
use Rattle.node_store.specs.Store.{Store, with_record}

module _ {R : Type 0} where
  -- whatever its width
  abbrev pub shelved : Shelves R → Store R
  shelved (One s) = s
  shelved (Two s) = s
  shelved (Three s) = s
  shelved (Four s) = s
  shelved (Five s) = s
  shelved (Six s) = s
  shelved (Seven s) = s
  shelved (Eight s) = s

  -- with another record at a node
  abbrev pub with_record_in : Shelves R → Node → R → Shelves R
  with_record_in (One s) n r = One (with_record s n r)
  with_record_in (Two s) n r = Two (with_record s n r)
  with_record_in (Three s) n r = Three (with_record s n r)
  with_record_in (Four s) n r = Four (with_record s n r)
  with_record_in (Five s) n r = Five (with_record s n r)
  with_record_in (Six s) n r = Six (with_record s n r)
  with_record_in (Seven s) n r = Seven (with_record s n r)
  with_record_in (Eight s) n r = Eight (with_record s n r)
