-- The value that is written for a command asks for the same command.
use Rattle.std.proofs.Common.{◌≡◌, ℕ, ◌^◌, ℤ, pos, negsuc, List, [], ◌∷◌, map, Bool, true, false, Option, Some, None, cond, option_map, option_and_then, refl, ap, ap₂, ◌∙◌, arith, length, length-append, decimal, lt-ltb}
use Rattle.std.specs.List.{AllByRecursion}
use Rattle.serde_json.specs.Data.{string}
use Rattle.serde_json.specs.Find.{as_str}
use Rattle.key_extract.specs.declared.cell.Cell.TheVariants as cells
use Rattle.container_model.specs.declared.handle.Kind.{Kind}
use Rattle.table_schema.proofs.KindTexts.{kind_of-kind_text}
use Rattle.table_cmd.specs.declared.command.Value.{Value}
use Rattle.table_cmd.specs.declared.command.Value.TheVariants as values
use Rattle.table_cmd.specs.declared.command.Field.{Field}
use Rattle.table_cmd.specs.declared.command.Position.{Position}
use Rattle.table_cmd.specs.declared.command.Changes.{Changes}
use Rattle.table_cmd.specs.declared.command.Changes.TheVariants.{Set, Add, Both}
use Rattle.table_cmd.specs.declared.command.KeyBound.{KeyBound}
use Rattle.table_cmd.specs.declared.command.KeyBound.TheVariants.{Included, Excluded, Unbounded}
use Rattle.table_cmd.specs.declared.command.HandleText.{HandleText}
use Rattle.table_cmd.specs.declared.command.HandleText.TheVariants as texts
use Rattle.table_cmd.specs.declared.command.Command.{Command}
use Rattle.table_cmd.specs.declared.command.Command.TheVariants as commands
use Rattle.command_lines.specs.Fits.{IntFits, ValueFits, FieldFits, HandleTextFits, EndFits, ChangesFit, BoundFits, CommandFits}
use Rattle.command_lines.specs.Op.{op_of}
use Rattle.command_lines.specs.Spelling.{handle_said}
use Rattle.command_lines.specs.Parts.{int_or_other, value_of, values_of, fields_of, handle_or_end, each_read, as_handle}
use Rattle.command_lines.specs.Meaning.{insert_of, replace_of, modify_of, modify_key_of, erase_of, move_of, rearrange_of, sort_of, add_index_of, get_of, nth_of, place_of, range_of, on_table, table_command, on_index, index_command, on_key, key_command, on_position, position_command, command_for, command_of}
use Rattle.command_lines.proofs.Spelling.{spelling_parts, handle_said-spelling, handle_said-bad}
use Rattle.command_text.specs.Text.{items_of, value_data, field_members, handle_data, end_data, command_data}

-- ---- values

int_back : (z : ℤ) → IntFits z → value_of (value_data (values.Cell (cells.Int z))) ≡ values.Cell (cells.Int z)
int_back (pos n) h = ap (λ b. int_or_other (cond b (Some (pos n)) None)) (lt-ltb n (2 ^ 63) h)
int_back (negsuc n) h = refl

value_back : (v : Value) → ValueFits v → value_of (value_data v) ≡ v
value_back (values.Cell cells.Null) h = refl
value_back (values.Cell (cells.Int z)) h = int_back z h
value_back (values.Cell (cells.Text s)) h = refl
value_back (values.Cell (cells.Bool b)) h = refl
value_back values.Other h = refl

values_back : (vs : List Value) → AllByRecursion ValueFits vs → values_of (items_of (map value_data vs)) ≡ vs
values_back [] h = refl
values_back (v ∷ vs) h = ap₂ (λ x xs. x ∷ xs) (value_back v h.0) (values_back vs h.1)

field_back : (f : Field) (v : Value) → v ≡ f.value → record { name = f.name; value = v } ≡ f
field_back f v e = ap (λ w. record { name = f.name; value = w }) e

fields_back : (fs : List Field) → AllByRecursion FieldFits fs → fields_of (field_members fs) ≡ fs
fields_back [] h = refl
fields_back (f ∷ fs) h = ap₂ (λ x xs. x ∷ xs) (field_back f _ (value_back f.value h.0.1)) (fields_back fs h.1)

-- the empty text spells no handle
no_handle : handle_said [] ≡ texts.Bad
no_handle = handle_said-bad [] (λ h fits e. let l = ap length (e ∙ spelling_parts h) in omega (arith, length-append (decimal h.slot) (58 ∷ decimal h.stamp)))

handle_back : (h : HandleText) → HandleTextFits h → option_map handle_said (as_str (handle_data h)) ≡ Some h
handle_back (texts.Handle h) fits = ap Some (handle_said-spelling _ h fits refl)
handle_back texts.Bad fits = ap Some no_handle

end_back : (h : Option HandleText) → EndFits h → handle_or_end (end_data h) ≡ Some h
end_back None fits = refl
end_back (Some (texts.Handle h)) fits = ap (λ k. Some (Some k)) (handle_said-spelling _ h fits refl)
end_back (Some texts.Bad) fits = ap (λ k. Some (Some k)) no_handle

handles_back : (hs : List HandleText) → AllByRecursion HandleTextFits hs → each_read as_handle (items_of (map handle_data hs)) ≡ Some hs
handles_back [] fits = refl
handles_back (h ∷ hs) fits =
    ap (option_and_then (λ k. option_and_then (λ ks. Some (k ∷ ks)) (each_read as_handle (items_of (map handle_data hs))))) (handle_back h fits.0)
    ∙ ap (option_and_then (λ ks. Some (h ∷ ks))) (handles_back hs fits.1)

names_back : (ns : List (List ℕ)) → each_read as_str (items_of (map (λ n. string n) ns)) ≡ Some ns
names_back [] = refl
names_back (n ∷ ns) = ap (option_and_then (λ ks. Some (n ∷ ks))) (names_back ns)

-- ---- each operation

insert_back : (t : List ℕ) (r : List Field) (p : Option Position) → AllByRecursion FieldFits r → command_of (command_data (commands.Insert t r p)) ≡ Some (commands.Insert t r p)
unfolding command_of command_for op_of insert_of
insert_back t r None h = ap (λ fs. Some (commands.Insert t fs None)) (fields_back r h)
insert_back t r (Some p) h = ap (λ fs. Some (commands.Insert t fs (Some p))) (fields_back r h)

replace_back : (t : List ℕ) (h : HandleText) (r : List Field) → HandleTextFits h → AllByRecursion FieldFits r → command_of (command_data (commands.Replace t h r)) ≡ Some (commands.Replace t h r)
unfolding command_of command_for op_of replace_of
replace_back t h r fits row =
    ap (option_and_then (λ k. Some (commands.Replace t k (fields_of (field_members r))))) (handle_back h fits) ∙ ap (λ fs. Some (commands.Replace t h fs)) (fields_back r row)

modify_back : (t : List ℕ) (h : HandleText) (cs : Changes) (b : Bool) → HandleTextFits h → ChangesFit cs → command_of (command_data (commands.Modify t h cs b)) ≡ Some (commands.Modify t h cs b)
unfolding command_of command_for op_of modify_of
modify_back t h (Set s) true fits cf = ap (option_and_then (λ k. Some (commands.Modify t k (Set (fields_of (field_members s))) true))) (handle_back h fits) ∙ ap (λ fs. Some (commands.Modify t h (Set fs) true)) (fields_back s cf.0)
modify_back t h (Set s) false fits cf = ap (option_and_then (λ k. Some (commands.Modify t k (Set (fields_of (field_members s))) false))) (handle_back h fits) ∙ ap (λ fs. Some (commands.Modify t h (Set fs) false)) (fields_back s cf.0)
modify_back t h (Add a) true fits cf = ap (option_and_then (λ k. Some (commands.Modify t k (Add (fields_of (field_members a))) true))) (handle_back h fits) ∙ ap (λ fs. Some (commands.Modify t h (Add fs) true)) (fields_back a cf.0)
modify_back t h (Add a) false fits cf = ap (option_and_then (λ k. Some (commands.Modify t k (Add (fields_of (field_members a))) false))) (handle_back h fits) ∙ ap (λ fs. Some (commands.Modify t h (Add fs) false)) (fields_back a cf.0)
modify_back t h (Both s a) true fits cf = ap (option_and_then (λ k. Some (commands.Modify t k (Both (fields_of (field_members s)) (fields_of (field_members a))) true))) (handle_back h fits) ∙ ap₂ (λ fs gs. Some (commands.Modify t h (Both fs gs) true)) (fields_back s cf.0.0) (fields_back a cf.1.0)
modify_back t h (Both s a) false fits cf = ap (option_and_then (λ k. Some (commands.Modify t k (Both (fields_of (field_members s)) (fields_of (field_members a))) false))) (handle_back h fits) ∙ ap₂ (λ fs gs. Some (commands.Modify t h (Both fs gs) false)) (fields_back s cf.0.0) (fields_back a cf.1.0)

modify_key_back : (t i : List ℕ) (h : HandleText) (k : List Value) (b : Bool) → HandleTextFits h → AllByRecursion ValueFits k → command_of (command_data (commands.ModifyKey t i h k b)) ≡ Some (commands.ModifyKey t i h k b)
unfolding command_of command_for op_of modify_key_of
modify_key_back t i h k true fits kf = ap (option_and_then (λ x. Some (commands.ModifyKey t i x (values_of (items_of (map value_data k))) true))) (handle_back h fits) ∙ ap (λ vs. Some (commands.ModifyKey t i h vs true)) (values_back k kf)
modify_key_back t i h k false fits kf = ap (option_and_then (λ x. Some (commands.ModifyKey t i x (values_of (items_of (map value_data k))) false))) (handle_back h fits) ∙ ap (λ vs. Some (commands.ModifyKey t i h vs false)) (values_back k kf)

erase_back : (t : List ℕ) (h : HandleText) (i : Option (List ℕ)) → HandleTextFits h → command_of (command_data (commands.Erase t h i)) ≡ Some (commands.Erase t h i)
unfolding command_of command_for op_of erase_of
erase_back t h None fits = ap (option_and_then (λ k. Some (commands.Erase t k None))) (handle_back h fits)
erase_back t h (Some i) fits = ap (option_and_then (λ k. Some (commands.Erase t k (Some i)))) (handle_back h fits)

move_back : (t i : List ℕ) (h : HandleText) (p : ℕ) → HandleTextFits h → command_of (command_data (commands.Move t i h p)) ≡ Some (commands.Move t i h p)
unfolding command_of command_for op_of move_of
move_back t i h p fits = ap (option_and_then (λ k. Some (commands.Move t i k p))) (handle_back h fits)

rearrange_back : (t i : List ℕ) (hs : List HandleText) → AllByRecursion HandleTextFits hs → command_of (command_data (commands.Rearrange t i hs)) ≡ Some (commands.Rearrange t i hs)
unfolding command_of command_for op_of rearrange_of
rearrange_back t i hs fits = ap (option_and_then (λ ks. Some (commands.Rearrange t i ks))) (handles_back hs fits)

sort_back : (t i : List ℕ) (by : List (List ℕ)) → command_of (command_data (commands.Sort t i by)) ≡ Some (commands.Sort t i by)
unfolding command_of command_for op_of sort_of
sort_back t i by = ap (option_and_then (λ ns. Some (commands.Sort t i ns))) (names_back by)

add_index_back : (t i : List ℕ) (k : Kind) (b : Bool) (ns : Option (List (List ℕ))) → command_of (command_data (commands.AddIndex t i k b ns)) ≡ Some (commands.AddIndex t i k b ns)
unfolding command_of command_for op_of add_index_of
add_index_back t i k true None = ap (option_and_then (λ x. Some (commands.AddIndex t i x true None))) (kind_of-kind_text k)
add_index_back t i k false None = ap (option_and_then (λ x. Some (commands.AddIndex t i x false None))) (kind_of-kind_text k)
add_index_back t i k true (Some ns) =
    ap (option_and_then (λ x. option_and_then (λ ms. Some (commands.AddIndex t i x true ms)) (option_map (λ ms. Some ms) (each_read as_str (items_of (map (λ n. string n) ns)))))) (kind_of-kind_text k)
    ∙ ap (λ o. option_and_then (λ ms. Some (commands.AddIndex t i k true ms)) (option_map (λ ms. Some ms) o)) (names_back ns)
add_index_back t i k false (Some ns) =
    ap (option_and_then (λ x. option_and_then (λ ms. Some (commands.AddIndex t i x false ms)) (option_map (λ ms. Some ms) (each_read as_str (items_of (map (λ n. string n) ns)))))) (kind_of-kind_text k)
    ∙ ap (λ o. option_and_then (λ ms. Some (commands.AddIndex t i k false ms)) (option_map (λ ms. Some ms) o)) (names_back ns)

get_back : (t : List ℕ) (h : HandleText) → HandleTextFits h → command_of (command_data (commands.Get t h)) ≡ Some (commands.Get t h)
unfolding command_of command_for op_of get_of
get_back t h fits = ap (option_and_then (λ k. Some (commands.Get t k))) (handle_back h fits)

nth_back : (t i : List ℕ) (n : ℕ) → command_of (command_data (commands.Nth t i n)) ≡ Some (commands.Nth t i n)
unfolding command_of command_for op_of nth_of
nth_back t i n = refl

place_back : (t i : List ℕ) (h : HandleText) → HandleTextFits h → command_of (command_data (commands.Place t i h)) ≡ Some (commands.Place t i h)
unfolding command_of command_for op_of place_of
place_back t i h fits = ap (option_and_then (λ k. Some (commands.Place t i k))) (handle_back h fits)

range_back : (t i : List ℕ) (low high : KeyBound) → BoundFits low → BoundFits high → command_of (command_data (commands.Range t i low high)) ≡ Some (commands.Range t i low high)
unfolding command_of command_for op_of range_of
range_back t i (Included k) (Included l) lf hf = ap₂ (λ a b. Some (commands.Range t i (Included a) (Included b))) (values_back k lf) (values_back l hf)
range_back t i (Included k) (Excluded l) lf hf = ap₂ (λ a b. Some (commands.Range t i (Included a) (Excluded b))) (values_back k lf) (values_back l hf)
range_back t i (Included k) Unbounded lf hf = ap (λ a. Some (commands.Range t i (Included a) Unbounded)) (values_back k lf)
range_back t i (Excluded k) (Included l) lf hf = ap₂ (λ a b. Some (commands.Range t i (Excluded a) (Included b))) (values_back k lf) (values_back l hf)
range_back t i (Excluded k) (Excluded l) lf hf = ap₂ (λ a b. Some (commands.Range t i (Excluded a) (Excluded b))) (values_back k lf) (values_back l hf)
range_back t i (Excluded k) Unbounded lf hf = ap (λ a. Some (commands.Range t i (Excluded a) Unbounded)) (values_back k lf)
range_back t i Unbounded (Included l) lf hf = ap (λ b. Some (commands.Range t i Unbounded (Included b))) (values_back l hf)
range_back t i Unbounded (Excluded l) lf hf = ap (λ b. Some (commands.Range t i Unbounded (Excluded b))) (values_back l hf)
range_back t i Unbounded Unbounded lf hf = refl

clear_back : (t : List ℕ) → command_of (command_data (commands.Clear t)) ≡ Some (commands.Clear t)
unfolding command_of command_for op_of table_command on_table
clear_back t = refl

size_back : (t : List ℕ) → command_of (command_data (commands.Size t)) ≡ Some (commands.Size t)
unfolding command_of command_for op_of table_command on_table
size_back t = refl

reverse_back : (t i : List ℕ) → command_of (command_data (commands.Reverse t i)) ≡ Some (commands.Reverse t i)
unfolding command_of command_for op_of index_command on_index
reverse_back t i = refl

drop_index_back : (t i : List ℕ) → command_of (command_data (commands.DropIndex t i)) ≡ Some (commands.DropIndex t i)
unfolding command_of command_for op_of index_command on_index
drop_index_back t i = refl

list_back : (t i : List ℕ) → command_of (command_data (commands.List t i)) ≡ Some (commands.List t i)
unfolding command_of command_for op_of index_command on_index
list_back t i = refl

erase_key_back : (t i : List ℕ) (k : List Value) → AllByRecursion ValueFits k → command_of (command_data (commands.EraseKey t i k)) ≡ Some (commands.EraseKey t i k)
unfolding command_of command_for op_of key_command on_key
erase_key_back t i k h = ap (λ vs. Some (commands.EraseKey t i vs)) (values_back k h)

find_back : (t i : List ℕ) (k : List Value) → AllByRecursion ValueFits k → command_of (command_data (commands.Find t i k)) ≡ Some (commands.Find t i k)
unfolding command_of command_for op_of key_command on_key
find_back t i k h = ap (λ vs. Some (commands.Find t i vs)) (values_back k h)

count_back : (t i : List ℕ) (k : List Value) → AllByRecursion ValueFits k → command_of (command_data (commands.Count t i k)) ≡ Some (commands.Count t i k)
unfolding command_of command_for op_of key_command on_key
count_back t i k h = ap (λ vs. Some (commands.Count t i vs)) (values_back k h)

lower_back : (t i : List ℕ) (k : List Value) → AllByRecursion ValueFits k → command_of (command_data (commands.Lower t i k)) ≡ Some (commands.Lower t i k)
unfolding command_of command_for op_of key_command on_key
lower_back t i k h = ap (λ vs. Some (commands.Lower t i vs)) (values_back k h)

upper_back : (t i : List ℕ) (k : List Value) → AllByRecursion ValueFits k → command_of (command_data (commands.Upper t i k)) ≡ Some (commands.Upper t i k)
unfolding command_of command_for op_of key_command on_key
upper_back t i k h = ap (λ vs. Some (commands.Upper t i vs)) (values_back k h)

find_rank_back : (t i : List ℕ) (k : List Value) → AllByRecursion ValueFits k → command_of (command_data (commands.FindRank t i k)) ≡ Some (commands.FindRank t i k)
unfolding command_of command_for op_of key_command on_key
find_rank_back t i k h = ap (λ vs. Some (commands.FindRank t i vs)) (values_back k h)

lower_rank_back : (t i : List ℕ) (k : List Value) → AllByRecursion ValueFits k → command_of (command_data (commands.LowerRank t i k)) ≡ Some (commands.LowerRank t i k)
unfolding command_of command_for op_of key_command on_key
lower_rank_back t i k h = ap (λ vs. Some (commands.LowerRank t i vs)) (values_back k h)

upper_rank_back : (t i : List ℕ) (k : List Value) → AllByRecursion ValueFits k → command_of (command_data (commands.UpperRank t i k)) ≡ Some (commands.UpperRank t i k)
unfolding command_of command_for op_of key_command on_key
upper_rank_back t i k h = ap (λ vs. Some (commands.UpperRank t i vs)) (values_back k h)

rank_back : (t i : List ℕ) (p : Option HandleText) → EndFits p → command_of (command_data (commands.Rank t i p)) ≡ Some (commands.Rank t i p)
unfolding command_of command_for op_of position_command on_position
rank_back t i p h = ap (option_and_then (λ q. Some (commands.Rank t i q))) (end_back p h)

next_back : (t i : List ℕ) (p : Option HandleText) → EndFits p → command_of (command_data (commands.Next t i p)) ≡ Some (commands.Next t i p)
unfolding command_of command_for op_of position_command on_position
next_back t i p h = ap (option_and_then (λ q. Some (commands.Next t i q))) (end_back p h)

prev_back : (t i : List ℕ) (p : Option HandleText) → EndFits p → command_of (command_data (commands.Prev t i p)) ≡ Some (commands.Prev t i p)
unfolding command_of command_for op_of position_command on_position
prev_back t i p h = ap (option_and_then (λ q. Some (commands.Prev t i q))) (end_back p h)

-- what is written for a command asks for it
pub command_back : (c : Command) → CommandFits c → command_of (command_data c) ≡ Some c
command_back (commands.Insert t r p) h = insert_back t r p h.1.0
command_back (commands.Replace t k r) h = replace_back t k r h.1 h.2.0
command_back (commands.Modify t k cs b) h = modify_back t k cs b h.1 h.2
command_back (commands.ModifyKey t i k key b) h = modify_key_back t i k key b h.2 h.3
command_back (commands.Erase t k i) h = erase_back t k i h.1
command_back (commands.EraseKey t i key) h = erase_key_back t i key h.2
command_back (commands.Clear t) h = clear_back t
command_back (commands.Move t i k p) h = move_back t i k p h.2
command_back (commands.Rearrange t i ks) h = rearrange_back t i ks h.2
command_back (commands.Reverse t i) h = reverse_back t i
command_back (commands.Sort t i by) h = sort_back t i by
command_back (commands.AddIndex t i k b ns) h = add_index_back t i k b ns
command_back (commands.DropIndex t i) h = drop_index_back t i
command_back (commands.Get t k) h = get_back t k h.1
command_back (commands.Size t) h = size_back t
command_back (commands.Find t i key) h = find_back t i key h.2
command_back (commands.Count t i key) h = count_back t i key h.2
command_back (commands.Lower t i key) h = lower_back t i key h.2
command_back (commands.Upper t i key) h = upper_back t i key h.2
command_back (commands.Range t i low high) h = range_back t i low high h.2 h.3
command_back (commands.Nth t i n) h = nth_back t i n
command_back (commands.Rank t i p) h = rank_back t i p h.2
command_back (commands.Place t i k) h = place_back t i k h.2
command_back (commands.FindRank t i key) h = find_rank_back t i key h.2
command_back (commands.LowerRank t i key) h = lower_rank_back t i key h.2
command_back (commands.UpperRank t i key) h = upper_rank_back t i key h.2
command_back (commands.Next t i p) h = next_back t i p h.2
command_back (commands.Prev t i p) h = prev_back t i p h.2
command_back (commands.List t i) h = list_back t i
