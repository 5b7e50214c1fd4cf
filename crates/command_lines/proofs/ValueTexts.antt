-- The texts of a JSON value are UTF-8.
use Rattle.std.proofs.Common.{List, [], ◌∷◌, map, String, IsUtf8, subst, sym}
use Rattle.std.proofs.lemmas.Str.{IsUtf8-string_bytes}
use Rattle.std.specs.Prelude.{⊤}
use Rattle.std.specs.declared.alloc.Global.{Global}
use Rattle.serde_json.specs.Data.{Data, null, boolean, number, string, array, object, Items, no_items, item, Members, no_members, member}
use Rattle.serde_json.specs.View.{view, view_step, items_of, members_of}
use Rattle.serde_json.specs.declared.value.Value.{Value, map-Value, fold-roll-Value, ind-Value}
use Rattle.serde_json.specs.declared.value.Value.TheOpen.{Value-F}

-- texts and names are UTF-8
abbrev mutual
  pub HasTexts : Data → Type 0
  HasTexts null = ⊤
  HasTexts (boolean b) = ⊤
  HasTexts (number n) = ⊤
  HasTexts (string s) = IsUtf8 s
  HasTexts (array ds) = ItemsHaveTexts ds
  HasTexts (object ms) = MembersHaveTexts ms

  pub ItemsHaveTexts : Items → Type 0
  ItemsHaveTexts no_items = ⊤
  ItemsHaveTexts (item d ds) = HasTexts d × ItemsHaveTexts ds

  pub MembersHaveTexts : Members → Type 0
  MembersHaveTexts no_members = ⊤
  MembersHaveTexts (member k d ms) = IsUtf8 k × HasTexts d × MembersHaveTexts ms

-- a value with UTF-8 in it
abbrev Texts : Value → Type 0
Texts v = HasTexts (view v)

abbrev Sound : Type 0
Sound = (v : Value) × Texts v

items_texts : (vs : List Sound) → ItemsHaveTexts (items_of (map view (map (λ e. e.0) vs)))
items_texts [] = tt
items_texts (e ∷ vs) = (e.1, items_texts vs)

members_texts : (es : List (String Global × Sound)) → MembersHaveTexts (members_of (map (λ (m : String Global × Value). (m.0, view m.1)) (map (λ (m : String Global × Sound). (m.0, m.1.0)) es)))
members_texts [] = tt
members_texts (e ∷ es) = (IsUtf8-string_bytes e.0, e.1.1, members_texts es)

layer_texts : (y : Value-F Sound) → HasTexts (view_step (map-Value Value Data view (map-Value Sound Value (λ e. e.0) y)))
layer_texts Value-F.Null = tt
layer_texts (Value-F.Bool b) = tt
layer_texts (Value-F.Number n) = tt
layer_texts (Value-F.String s) = IsUtf8-string_bytes s
layer_texts (Value-F.Array vs) = items_texts vs.items
layer_texts (Value-F.Object m) = members_texts m.entries

pub value_texts : (v : Value) → HasTexts (view v)
value_texts = ind-Value Texts (λ x y is.
    subst HasTexts (sym (fold-roll-Value Data view_step x)) (subst (λ z. HasTexts (view_step (map-Value Value Data view z))) is (layer_texts y)))
