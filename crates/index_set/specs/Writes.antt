-- What changes of a record leave of a set.
use Rattle.std.specs.Prelude.{◌≡◌, ℕ, ◌+◌, ◌<◌, ◌≤◌, ◌^◌, Bool, cond, IsTrue, IfSome, OnSome, Option, Some, None, length, map, option_map}
use Rattle.std.specs.declared.cmp.Ordering.{Ordering}
use Rattle.std.specs.declared.cmp.Ordering.TheVariants.{Equal}
use Rattle.list_model.specs.Walk.{without}
use Rattle.node_store.specs.declared.Node.{Node}
use Rattle.node_store.specs.Store.{Store, age_of, len_of}
use Rattle.node_store.specs.ByNode as store
use Rattle.node_store.specs.ByNode.{AddsNode, RemovesNode, same_node}
use Rattle.container_model.specs.Insert.{At}
use Rattle.container_model.specs.State.{has_key_kind}
use Rattle.container_model.specs.declared.handle.Entry.{Entry}
use Rattle.index_set.specs.declared.by_row.ByRow.{ByRow}
use Rattle.index_set.specs.declared.change.Lost.{Lost}
use Rattle.index_set.specs.declared.parts.Parts.{Parts}
use Rattle.index_set.specs.declared.places.FreePlace.{FreePlace}
use Rattle.index_set.specs.ByRow.{order_by_row, with_row}
use Rattle.index_set.specs.Each.{changed_from}
use Rattle.index_set.specs.Lists.{ban_from, entered_at, settled_at}
use Rattle.index_set.specs.Places.{IsPlaceOf}
use Rattle.index_set.specs.Set.{store_of, keys_of, specs_of, contents, kind_at, record_of, list_of, lists_of, with_record, IsOfSame}

module _ {R : Type 0} (old new : Store R) (n : Node) where
  -- but for the links, the new store has the node n more, with this record
  pub record AddsRecord (value : R) : Type 0 where
    pub before : Store R
    pub after : Store R
    pub was : store.contents before ≡ store.contents old
    pub adds : AddsNode before after n value
    pub is : store.contents new ≡ store.contents after

  -- and lacks it
  pub record RemovesRecord : Type 0 where
    pub before : Store R
    pub was : store.contents before ≡ store.contents old
    pub removes : RemovesNode before new n

-- a record may be put in: no other bans it, the place that is asked for is there, and where it goes is as it is known
pub record CanPut {R E : Type 0} (order : E → ℕ → R → R → Ordering) (s : Parts R E) (value : R) (at : At) (free : Option FreePlace) : Type 0 where
  pub count : (store_of s).added + 1 < 2 ^ 64
  pub place : (j p : ℕ) → at ≡ Some (j, p) → p ≤ length (list_of s j)
  pub allowed : ban_from (order (keys_of s)) (record_of s) (lists_of s) None value 0 (specs_of s) ≡ None
  pub known : IfSome free (IsPlaceOf (order (keys_of s)) (record_of s) (lists_of s) value)

module _ {R E : Type 0} (order : E → ℕ → R → R → Ordering) (old new : Parts R E) (n : Node) (value : R) where
  -- the record is in the set, in a new node that stands in each index at its place
  pub record IsPut (at : At) : Type 0 where
    pub same : IsOfSame old new
    pub added : AddsRecord (store_of old) (store_of new) n value
    pub age : age_of (store_of new) n ≡ (store_of old).added
    pub count : (store_of new).added ≡ (store_of old).added + 1
    pub len : len_of (store_of new) ≡ len_of (store_of old) + 1
    pub lists : lists_of new ≡ changed_from (entered_at (order (keys_of old)) (record_of new) (age_of (store_of new)) at n) 0 (specs_of old) (lists_of old)

  -- the node has this record, and has settled in each index
  pub record IsRewritten : Type 0 where
    pub same : IsOfSame old new
    pub contents : contents new ≡ contents (with_record old n value)
    pub lists : lists_of new ≡ changed_from (settled_at (order (keys_of old)) (record_of new) n) 0 (specs_of old) (lists_of old)

-- the node is gone, out of each index and out of the set
pub record IsTaken {R E : Type 0} (old new : Parts R E) (n : Node) : Type 0 where
  pub same : IsOfSame old new
  pub removed : RemovesRecord (store_of old) (store_of new) n
  pub count : (store_of new).added ≡ (store_of old).added
  pub len : len_of (store_of new) + 1 ≡ len_of (store_of old)
  pub lists : lists_of new ≡ map (without (same_node n)) (lists_of old)

-- this gives the row of a node's record its keys back
abbrev pub GivesKeysBack : {E R : Type 0} → (E → ℕ → R → R → Ordering) → Parts (Entry R) (ByRow E) → Node → (R → R) → Type 0
GivesKeysBack {R = R} order s n undone =
    (index : ℕ) (e : Entry R) → index < length (specs_of s) → IsTrue (has_key_kind (kind_at s index)) → record_of s n ≡ Some e → order (keys_of s).keys index (undone e.row) e.row ≡ Equal

module _ {E R : Type 0} (order : E → ℕ → R → R → Ordering) (old new : Parts (Entry R) (ByRow E)) (n : Node) (e : Entry R) (row : R) where
  -- the first unique index in which another record has the key of this row, with its node
  abbrev pub row_ban : Option (ℕ × Node)
  row_ban = ban_from (order_by_row order (keys_of old)) (record_of old) (lists_of old) (Some n) (with_row e row) 0 (specs_of old)

  -- the node's record has this row, and the node has settled; or a ban stands, and the record is lost
  pub record IsModified (lost : Option (Lost (Entry R))) : Type 0 where
    pub ban : option_map (λ l. (l.index, l.by)) lost ≡ row_ban
    pub handed_out : IfSome lost (λ l. l.value ≡ with_row e row)
    pub taken : OnSome lost (IsTaken (with_record old n (with_row e row)) new n)
    pub written : lost ≡ None → IsRewritten (order_by_row order) old new n (with_row e row)

  -- so it is where the row stays; else the node stands where it stood, and its record has the other row
  pub record IsModifiedOrUndone (undone : R) (ban : Option (ℕ × Node)) (stays : Bool) : Type 0 where
    pub ban_is : ban ≡ row_ban
    pub same : IsOfSame old new
    pub contents : contents new ≡ contents (with_record old n (with_row e (cond stays row undone)))
    pub lists : lists_of new ≡ cond stays (changed_from (settled_at (order_by_row order (keys_of old)) (record_of new) n) 0 (specs_of old) (lists_of old)) (lists_of old)
