-- A command that a line means fits: its canonical text can be read back.
use Rattle.std.proofs.Common.{◌≡◌, ℕ, ◌^◌, ◌<◌, ◌&&◌, pos, List, ◌∷◌, map, Bool, true, false, cond, codes, nat_lt, bytes_eq, Option, Some, None, option_and_then, Result, Ok, Err, IfSome, IfOk, IsUtf8, Ordering, Less, Equal, Greater, nat_cmp, refl, subst}
use Rattle.std.proofs.lemmas.Bool.{and_parts, ltb-true}
use Rattle.std.specs.Cmp.Lexicographic.{slice_cmp}
use Rattle.std.specs.List.{AllByRecursion}
use Rattle.std.specs.List.Sorted.{IsStrictlySortedBy}
use Rattle.std.specs.Ordering.{match_ordering}
use Rattle.std.specs.Prelude.{⊤}
use Rattle.serde_json.specs.Data.{Num, unsigned, negative, float, Data, number, string, array, object, Items, no_items, item, Members, no_members, member}
use Rattle.serde_json.specs.Find.{get, get_member, as_str, as_number, as_array, as_object, as_i64, as_u64}
use Rattle.container_model.specs.declared.handle.Handle.{Handle}
use Rattle.table_reply.specs.Spelling.{spelling}
use Rattle.table_cmd.specs.declared.command.Value.{Value}
use Rattle.table_cmd.specs.declared.command.Changes.TheVariants.{Set, Add, Both}
use Rattle.table_cmd.specs.declared.command.KeyBound.TheVariants.{Included, Excluded}
use Rattle.table_cmd.specs.declared.command.HandleText.{HandleText}
use Rattle.table_cmd.specs.declared.command.HandleText.TheVariants as texts
use Rattle.table_cmd.specs.declared.command.Command.{Command}
use Rattle.table_cmd.specs.declared.command.Command.TheVariants as commands
use Rattle.command_lines.specs.declared.fault.CommandFault.{CommandFault}
use Rattle.command_lines.specs.declared.op.Op.{Op}
use Rattle.command_lines.specs.declared.op.Op.TheVariants as ops
use Rattle.command_lines.specs.declared.op.TableOp.{TableOp}
use Rattle.command_lines.specs.declared.op.TableOp.TheVariants.{Clear, Size}
use Rattle.command_lines.specs.declared.op.IndexOp.{IndexOp}
use Rattle.command_lines.specs.declared.op.IndexOp.TheVariants.{Reverse, DropIndex, List as Listing}
use Rattle.command_lines.specs.declared.op.KeyOp.{KeyOp}
use Rattle.command_lines.specs.declared.op.KeyOp.TheVariants.{EraseKey, Find, Count, Lower, Upper, FindRank, LowerRank, UpperRank}
use Rattle.command_lines.specs.declared.op.PositionOp.{PositionOp}
use Rattle.command_lines.specs.declared.op.PositionOp.TheVariants.{Rank, Next, Prev}
use Rattle.command_lines.specs.Fits.{ValueFits, FieldFits, FieldsFit, HandleTextFits, EndFits, PositionFits, IndexFits, NamesFit, ChangesFit, KeyFits, BoundFits, CommandFits}
use Rattle.command_lines.specs.Op.{op_of, keys_of}
use Rattle.command_lines.specs.Spelling.{numbers_in, handle_said}
use Rattle.command_lines.specs.Parts.{Gives, int_or_other, value_of, values_of, fields_of, has_only, text_at, as_count, count_at, as_key, as_fields, key_at, row_at, handle_at, handle_or_end, end_at, each_read, as_handle, handles_at, names_at, as_names, names_if_given, kind_at, text_if_given, position_at, changes_at, truth_at, bound_at, or_fault}
use Rattle.command_lines.specs.Meaning.{insert_of, replace_of, modify_of, modify_key_of, erase_of, move_of, rearrange_of, sort_of, add_index_of, get_of, nth_of, place_of, range_of, on_table, table_command, on_index, index_command, on_key, key_command, on_position, position_command, shaped, command_for, command_of}
use Rattle.command_lines.proofs.Found.{then_some, map_some, any_some}
use Rattle.command_lines.proofs.Order.{AreAbove, IntegerFits, IsOrdered, ItemsAreOrdered, MembersAreOrdered}
use Rattle.command_lines.proofs.ValueTexts.{HasTexts, ItemsHaveTexts, MembersHaveTexts}

-- what is read of a line into a value
abbrev pub IsGood : Data → Type 0
IsGood d = IsOrdered d × HasTexts d

abbrev ItemsAreGood : Items → Type 0
ItemsAreGood ds = ItemsAreOrdered ds × ItemsHaveTexts ds

abbrev MembersAreGood : Members → Type 0
MembersAreGood ms = MembersAreOrdered ms × MembersHaveTexts ms

-- ---- what stands under a name

found_good : (o : Ordering) (a b : Option Data) → IfSome a IsGood → IfSome b IsGood → IfSome (match_ordering o a b a) IsGood
found_good Less a b p q = p
found_good Equal a b p q = q
found_good Greater a b p q = p

member_good : (k : List ℕ) (ms : Members) → MembersAreGood ms → IfSome (get_member k ms) IsGood
member_good k no_members h = tt
member_good k (member l d ms) h = found_good (slice_cmp nat_cmp k l) (get_member k ms) (Some d) (member_good k ms (h.0.2, h.1.2)) (h.0.0, h.1.1)

get_good : (k : List ℕ) (d : Data) → IsGood d → IfSome (get k d) IsGood
get_good k (object ms) h = member_good k ms h
get_good k other h = tt

-- ---- values

str_fits : (d : Data) → IsGood d → IfSome (as_str d) IsUtf8
str_fits (string s) h = h.1
str_fits other h = tt

number_fits : (d : Data) → IsGood d → IfSome (as_number d) IntegerFits
number_fits (number n) h = h.0
number_fits other h = tt

whole_fits : (n : Num) → IntegerFits n → IfSome (as_u64 n) (λ m. m < 2 ^ 64)
whole_fits (unsigned n) h = h
whole_fits other h = tt

count_fits : (d : Data) → IsGood d → IfSome (as_count d) (λ m. m < 2 ^ 64)
count_fits d h = then_some IntegerFits (λ m. m < 2 ^ 64) as_u64 (as_number d) (number_fits d h) whole_fits

signed_fits : (n : ℕ) (b : Bool) → nat_lt n (2 ^ 63) ≡ b → ValueFits (int_or_other (cond b (Some (pos n)) None))
signed_fits n true e = ltb-true n (2 ^ 63) e
signed_fits n false e = tt

int_fits : (n : Num) → IntegerFits n → ValueFits (int_or_other (as_i64 n))
int_fits (unsigned n) h = signed_fits n _ refl
int_fits (negative z) h = h
int_fits (float x) h = tt

value_fits : (d : Data) → IsGood d → ValueFits (value_of d)
value_fits (number n) h = int_fits n h.0
value_fits (string s) h = h.1
value_fits other h = tt

values_fit : (ds : Items) → ItemsAreGood ds → KeyFits (values_of ds)
values_fit no_items h = tt
values_fit (item d ds) h = (value_fits d (h.0.0, h.1.0), values_fit ds (h.0.1, h.1.1))

each_field_fits : (ms : Members) → MembersAreGood ms → AllByRecursion FieldFits (fields_of ms)
each_field_fits no_members h = tt
each_field_fits (member k d ms) h = ((h.1.0, value_fits d (h.0.0, h.1.1)), each_field_fits ms (h.0.2, h.1.2))

names_above : (k : List ℕ) (ms : Members) → AreAbove k ms → AllByRecursion (λ l. slice_cmp nat_cmp k l ≡ Less) (map (λ f. f.name) (fields_of ms))
names_above k no_members h = tt
names_above k (member l d ms) h = (h.0, names_above k ms h.1)

names_ascend : (ms : Members) → MembersAreOrdered ms → IsStrictlySortedBy (slice_cmp nat_cmp) (map (λ f. f.name) (fields_of ms))
unfolding IsStrictlySortedBy
names_ascend no_members h = tt
names_ascend (member k d ms) h = (names_above k ms h.1, names_ascend ms h.2)

key_fits : (d : Data) → IsGood d → IfSome (as_key d) KeyFits
key_fits (array ds) h = values_fit ds h
key_fits other h = tt

fields_fit : (d : Data) → IsGood d → IfSome (as_fields d) FieldsFit
fields_fit (object ms) h = (each_field_fits ms h, names_ascend ms h.0)
fields_fit other h = tt

-- ---- handles

spelled_fits : (text : List ℕ) (h : Handle) (b : Bool) → (nat_lt h.slot (2 ^ 32) && (nat_lt h.stamp (2 ^ 64) && bytes_eq text (spelling h))) ≡ b
    → HandleTextFits (cond b (texts.Handle h) texts.Bad)
spelled_fits text h true e =
    let first = and_parts (nat_lt h.slot (2 ^ 32)) _ e in
    let second = and_parts (nat_lt h.stamp (2 ^ 64)) _ first.1 in
    (ltb-true h.slot (2 ^ 32) first.0, ltb-true h.stamp (2 ^ 64) second.0)
spelled_fits text h false e = tt

said_fits : (text : List ℕ) → HandleTextFits (handle_said text)
unfolding handle_said
said_fits text = spelled_fits text (numbers_in text) _ refl

handle_fits : (d : Data) → IsGood d → IfSome (as_handle d) HandleTextFits
handle_fits d h = map_some IsUtf8 HandleTextFits handle_said (as_str d) (str_fits d h) (λ s u. said_fits s)

end_fits : (d : Data) → IsGood d → IfSome (handle_or_end d) EndFits
end_fits (string s) h = said_fits s
end_fits other h = tt

-- ---- lists

array_good : (d : Data) → IsGood d → IfSome (as_array d) ItemsAreGood
array_good (array ds) h = h
array_good other h = tt

each_fits : {X : Type 0} (f : Data → Option X) (P : X → Type 0) → ((d : Data) → IsGood d → IfSome (f d) P) → (ds : Items) → ItemsAreGood ds → IfSome (each_read f ds) (AllByRecursion P)
each_fits f P one no_items h = tt
each_fits f P one (item d ds) h =
    then_some P (AllByRecursion P) _ (f d) (one d (h.0.0, h.1.0))
    (λ x p. then_some (AllByRecursion P) (AllByRecursion P) (λ xs. Some (x ∷ xs)) (each_read f ds) (each_fits f P one ds (h.0.1, h.1.1)) (λ xs ps. (p, ps)))

-- ---- parts of a command

text_part : (k : List ℕ) (d : Data) → IsGood d → IfSome (text_at k d) IsUtf8
text_part k d h = then_some IsGood IsUtf8 as_str (get k d) (get_good k d h) str_fits

count_part : (k : List ℕ) (d : Data) → IsGood d → IfSome (count_at k d) (λ n. n < 2 ^ 64)
count_part k d h = then_some IsGood (λ n. n < 2 ^ 64) as_count (get k d) (get_good k d h) count_fits

key_part : (d : Data) → IsGood d → IfSome (key_at d) KeyFits
key_part d h = then_some IsGood KeyFits as_key (get (codes "k") d) (get_good (codes "k") d h) key_fits

row_part : (d : Data) → IsGood d → IfSome (row_at d) FieldsFit
row_part d h = then_some IsGood FieldsFit as_fields (get (codes "r") d) (get_good (codes "r") d h) fields_fit

handle_part : (d : Data) → IsGood d → IfSome (handle_at d) HandleTextFits
handle_part d h = map_some IsUtf8 HandleTextFits handle_said (text_at (codes "h") d) (text_part (codes "h") d h) (λ s u. said_fits s)

end_part : (d : Data) → IsGood d → IfSome (end_at d) EndFits
end_part d h = then_some IsGood EndFits handle_or_end (get (codes "h") d) (get_good (codes "h") d h) end_fits

items_part : (k : List ℕ) (d : Data) → IsGood d → IfSome (option_and_then as_array (get k d)) ItemsAreGood
items_part k d h = then_some IsGood ItemsAreGood as_array (get k d) (get_good k d h) array_good

handles_part : (d : Data) → IsGood d → IfSome (handles_at d) (AllByRecursion HandleTextFits)
handles_part d h = then_some ItemsAreGood (AllByRecursion HandleTextFits) (each_read as_handle) (option_and_then as_array (get (codes "hs") d)) (items_part (codes "hs") d h) (each_fits as_handle HandleTextFits handle_fits)

names_fit : (d : Data) → IsGood d → IfSome (as_names d) (AllByRecursion IsUtf8)
names_fit d h = then_some ItemsAreGood (AllByRecursion IsUtf8) (each_read as_str) (as_array d) (array_good d h) (each_fits as_str IsUtf8 str_fits)

names_part : (d : Data) → IsGood d → IfSome (names_at d) (AllByRecursion IsUtf8)
names_part d h = then_some IsGood (AllByRecursion IsUtf8) as_names (get (codes "by") d) (get_good (codes "by") d h) names_fit

columns_part : (o : Option Data) → IfSome o IsGood → IfSome (names_if_given o) NamesFit
columns_part None h = tt
columns_part (Some d) h = map_some (AllByRecursion IsUtf8) NamesFit (λ names. Some names) (as_names d) (names_fit d h) (λ names u. u)

index_part : (o : Option Data) → IfSome o IsGood → IfSome (text_if_given o) IndexFits
index_part None h = tt
index_part (Some d) h = map_some IsUtf8 IndexFits (λ s. Some s) (as_str d) (str_fits d h) (λ s u. u)

position_part : (i p : Option Data) → IfSome i IsGood → IfSome p IsGood → IfSome (position_at i p) PositionFits
position_part None None hi hp = tt
position_part None (Some p) hi hp = tt
position_part (Some i) None hi hp = tt
position_part (Some i) (Some p) hi hp =
    then_some IsUtf8 PositionFits _ (as_str i) (str_fits i hi)
    (λ index u. then_some (λ n. n < 2 ^ 64) PositionFits (λ place. Some (Some (record { index = index; place = place }))) (as_count p) (count_fits p hp) (λ place small. (u, small)))

changes_part : (s a : Option Data) → IfSome s IsGood → IfSome a IsGood → IfSome (changes_at s a) ChangesFit
changes_part None None hs ha = tt
changes_part (Some s) None hs ha = map_some FieldsFit ChangesFit (λ fields. Set fields) (as_fields s) (fields_fit s hs) (λ fields h. h)
changes_part None (Some a) hs ha = map_some FieldsFit ChangesFit (λ fields. Add fields) (as_fields a) (fields_fit a ha) (λ fields h. h)
changes_part (Some s) (Some a) hs ha =
    then_some FieldsFit ChangesFit _ (as_fields s) (fields_fit s hs)
    (λ set h. then_some FieldsFit ChangesFit (λ add. Some (Both set add)) (as_fields a) (fields_fit a ha) (λ add k. (h, k)))

bound_part : (i e : Option Data) → IfSome i IsGood → IfSome e IsGood → IfSome (bound_at i e) BoundFits
bound_part None None hi he = tt
bound_part (Some i) None hi he = map_some KeyFits BoundFits (λ key. Included key) (as_key i) (key_fits i hi) (λ key h. h)
bound_part None (Some e) hi he = map_some KeyFits BoundFits (λ key. Excluded key) (as_key e) (key_fits e he) (λ key h. h)
bound_part (Some i) (Some e) hi he = tt

-- ---- each shape of a command

-- a command of parts that fit fits, whatever its number of parts
with_one : {A : Type 0} (P : A → Type 0) (f : A → Command) (a : Option A) → IfSome a P → ((x : A) → P x → CommandFits (f x)) → IfSome (option_and_then (λ x. Some (f x)) a) CommandFits
with_one P f None ha fit = tt
with_one P f (Some x) ha fit = fit x ha

with_two : {A B : Type 0} (P : A → Type 0) (Q : B → Type 0) (f : A → B → Command) (a : Option A) (b : Option B) → IfSome a P → IfSome b Q
    → ((x : A) → P x → (y : B) → Q y → CommandFits (f x y)) → IfSome (option_and_then (λ x. option_and_then (λ y. Some (f x y)) b) a) CommandFits
with_two P Q f None b ha hb fit = tt
with_two P Q f (Some x) b ha hb fit = with_one Q (f x) b hb (fit x ha)

with_three : {A B C : Type 0} (P : A → Type 0) (Q : B → Type 0) (R : C → Type 0) (f : A → B → C → Command) (a : Option A) (b : Option B) (c : Option C) → IfSome a P → IfSome b Q → IfSome c R
    → ((x : A) → P x → (y : B) → Q y → (z : C) → R z → CommandFits (f x y z))
    → IfSome (option_and_then (λ x. option_and_then (λ y. option_and_then (λ z. Some (f x y z)) c) b) a) CommandFits
with_three P Q R f None b c ha hb hc fit = tt
with_three P Q R f (Some x) b c ha hb hc fit = with_two Q R (f x) b c hb hc (fit x ha)

with_four : {A B C D : Type 0} (P : A → Type 0) (Q : B → Type 0) (R : C → Type 0) (S : D → Type 0) (f : A → B → C → D → Command) (a : Option A) (b : Option B) (c : Option C) (d : Option D)
    → IfSome a P → IfSome b Q → IfSome c R → IfSome d S → ((x : A) → P x → (y : B) → Q y → (z : C) → R z → (w : D) → S w → CommandFits (f x y z w))
    → IfSome (option_and_then (λ x. option_and_then (λ y. option_and_then (λ z. option_and_then (λ w. Some (f x y z w)) d) c) b) a) CommandFits
with_four P Q R S f None b c d ha hb hc hd fit = tt
with_four P Q R S f (Some x) b c d ha hb hc hd fit = with_three Q R S (f x) b c d hb hc hd (fit x ha)

with_five : {A B C D E : Type 0} (P : A → Type 0) (Q : B → Type 0) (R : C → Type 0) (S : D → Type 0) (T : E → Type 0) (f : A → B → C → D → E → Command)
    (a : Option A) (b : Option B) (c : Option C) (d : Option D) (e : Option E) → IfSome a P → IfSome b Q → IfSome c R → IfSome d S → IfSome e T
    → ((x : A) → P x → (y : B) → Q y → (z : C) → R z → (w : D) → S w → (v : E) → T v → CommandFits (f x y z w v))
    → IfSome (option_and_then (λ x. option_and_then (λ y. option_and_then (λ z. option_and_then (λ w. option_and_then (λ v. Some (f x y z w v)) e) d) c) b) a) CommandFits
with_five P Q R S T f None b c d e ha hb hc hd he fit = tt
with_five P Q R S T f (Some x) b c d e ha hb hc hd he fit = with_four Q R S T (f x) b c d e hb hc hd he (fit x ha)

-- the table and the index
abbrev table_at : Data → Option (List ℕ)
table_at d = text_at (codes "t") d

abbrev index_at : Data → Option (List ℕ)
index_at d = text_at (codes "i") d

table_part : (d : Data) → IsGood d → IfSome (table_at d) IsUtf8
table_part d h = text_part (codes "t") d h

name_part : (d : Data) → IsGood d → IfSome (index_at d) IsUtf8
name_part d h = text_part (codes "i") d h

insert_fits : (d : Data) → IsGood d → IfSome (insert_of d) CommandFits
unfolding insert_of
insert_fits d h =
    with_three IsUtf8 FieldsFit PositionFits commands.Insert (table_at d) (row_at d) (position_at (get (codes "i") d) (get (codes "p") d))
    (table_part d h) (row_part d h) (position_part (get (codes "i") d) (get (codes "p") d) (get_good (codes "i") d h) (get_good (codes "p") d h)) (λ table t row r position p. (t, r, p))

replace_fits : (d : Data) → IsGood d → IfSome (replace_of d) CommandFits
unfolding replace_of
replace_fits d h =
    with_three IsUtf8 HandleTextFits FieldsFit commands.Replace (table_at d) (handle_at d) (row_at d) (table_part d h) (handle_part d h) (row_part d h) (λ table t handle n row r. (t, n, r))

modify_fits : (d : Data) → IsGood d → IfSome (modify_of d) CommandFits
unfolding modify_of
modify_fits d h =
    with_four IsUtf8 HandleTextFits ChangesFit (λ _. ⊤) commands.Modify (table_at d) (handle_at d) (changes_at (get (codes "set") d) (get (codes "add") d)) (truth_at (codes "rollback") d)
    (table_part d h) (handle_part d h) (changes_part (get (codes "set") d) (get (codes "add") d) (get_good (codes "set") d h) (get_good (codes "add") d h)) (any_some (truth_at (codes "rollback") d))
    (λ table t handle n changes c rollback _. (t, n, c))

modify_key_fits : (d : Data) → IsGood d → IfSome (modify_key_of d) CommandFits
unfolding modify_key_of
modify_key_fits d h =
    with_five IsUtf8 IsUtf8 HandleTextFits KeyFits (λ _. ⊤) commands.ModifyKey (table_at d) (index_at d) (handle_at d) (key_at d) (truth_at (codes "rollback") d)
    (table_part d h) (name_part d h) (handle_part d h) (key_part d h) (any_some (truth_at (codes "rollback") d)) (λ table t index i handle n key k rollback _. (t, i, n, k))

erase_fits : (d : Data) → IsGood d → IfSome (erase_of d) CommandFits
unfolding erase_of
erase_fits d h =
    with_three IsUtf8 HandleTextFits IndexFits commands.Erase (table_at d) (handle_at d) (text_if_given (get (codes "i") d))
    (table_part d h) (handle_part d h) (index_part (get (codes "i") d) (get_good (codes "i") d h)) (λ table t handle n index i. (t, n, i))

move_fits : (d : Data) → IsGood d → IfSome (move_of d) CommandFits
unfolding move_of
move_fits d h =
    with_four IsUtf8 IsUtf8 HandleTextFits (λ n. n < 2 ^ 64) commands.Move (table_at d) (index_at d) (handle_at d) (count_at (codes "p") d)
    (table_part d h) (name_part d h) (handle_part d h) (count_part (codes "p") d h) (λ table t index i handle n place p. (t, i, n, p))

rearrange_fits : (d : Data) → IsGood d → IfSome (rearrange_of d) CommandFits
unfolding rearrange_of
rearrange_fits d h =
    with_three IsUtf8 IsUtf8 (AllByRecursion HandleTextFits) commands.Rearrange (table_at d) (index_at d) (handles_at d)
    (table_part d h) (name_part d h) (handles_part d h) (λ table t index i handles n. (t, i, n))

sort_fits : (d : Data) → IsGood d → IfSome (sort_of d) CommandFits
unfolding sort_of
sort_fits d h =
    with_three IsUtf8 IsUtf8 (AllByRecursion IsUtf8) commands.Sort (table_at d) (index_at d) (names_at d) (table_part d h) (name_part d h) (names_part d h) (λ table t index i by n. (t, i, n))

add_index_fits : (d : Data) → IsGood d → IfSome (add_index_of d) CommandFits
unfolding add_index_of
add_index_fits d h =
    with_five IsUtf8 IsUtf8 (λ _. ⊤) (λ _. ⊤) NamesFit commands.AddIndex (table_at d) (index_at d) (kind_at d) (truth_at (codes "unique") d) (names_if_given (get (codes "key") d))
    (table_part d h) (name_part d h) (any_some (kind_at d)) (any_some (truth_at (codes "unique") d)) (columns_part (get (codes "key") d) (get_good (codes "key") d h))
    (λ table t index i kind _ unique _ key n. (t, i, n))

get_fits : (d : Data) → IsGood d → IfSome (get_of d) CommandFits
unfolding get_of
get_fits d h = with_two IsUtf8 HandleTextFits commands.Get (table_at d) (handle_at d) (table_part d h) (handle_part d h) (λ table t handle n. (t, n))

nth_fits : (d : Data) → IsGood d → IfSome (nth_of d) CommandFits
unfolding nth_of
nth_fits d h =
    with_three IsUtf8 IsUtf8 (λ n. n < 2 ^ 64) commands.Nth (table_at d) (index_at d) (count_at (codes "n") d)
    (table_part d h) (name_part d h) (count_part (codes "n") d h) (λ table t index i place p. (t, i, p))

place_fits : (d : Data) → IsGood d → IfSome (place_of d) CommandFits
unfolding place_of
place_fits d h =
    with_three IsUtf8 IsUtf8 HandleTextFits commands.Place (table_at d) (index_at d) (handle_at d) (table_part d h) (name_part d h) (handle_part d h) (λ table t index i handle n. (t, i, n))

range_fits : (d : Data) → IsGood d → IfSome (range_of d) CommandFits
unfolding range_of
range_fits d h =
    with_four IsUtf8 IsUtf8 BoundFits BoundFits commands.Range (table_at d) (index_at d) (bound_at (get (codes "ge") d) (get (codes "gt") d)) (bound_at (get (codes "le") d) (get (codes "lt") d))
    (table_part d h) (name_part d h) (bound_part (get (codes "ge") d) (get (codes "gt") d) (get_good (codes "ge") d h) (get_good (codes "gt") d h))
    (bound_part (get (codes "le") d) (get (codes "lt") d) (get_good (codes "le") d h) (get_good (codes "lt") d h)) (λ table t index i low l high g. (t, i, l, g))

on_table_fits : (op : TableOp) (table : List ℕ) → IsUtf8 table → CommandFits (on_table op table)
unfolding on_table
on_table_fits Clear table t = t
on_table_fits Size table t = t

table_fits : (op : TableOp) (d : Data) → IsGood d → IfSome (table_command op d) CommandFits
unfolding table_command
table_fits op d h = with_one IsUtf8 (on_table op) (table_at d) (table_part d h) (on_table_fits op)

on_index_fits : (op : IndexOp) (table : List ℕ) → IsUtf8 table → (index : List ℕ) → IsUtf8 index → CommandFits (on_index op table index)
unfolding on_index
on_index_fits Reverse table t index i = (t, i)
on_index_fits DropIndex table t index i = (t, i)
on_index_fits Listing table t index i = (t, i)

index_fits : (op : IndexOp) (d : Data) → IsGood d → IfSome (index_command op d) CommandFits
unfolding index_command
index_fits op d h = with_two IsUtf8 IsUtf8 (on_index op) (table_at d) (index_at d) (table_part d h) (name_part d h) (on_index_fits op)

on_key_fits : (op : KeyOp) (table : List ℕ) → IsUtf8 table → (index : List ℕ) → IsUtf8 index → (key : List Value) → KeyFits key → CommandFits (on_key op table index key)
unfolding on_key
on_key_fits EraseKey table t index i key k = (t, i, k)
on_key_fits Find table t index i key k = (t, i, k)
on_key_fits Count table t index i key k = (t, i, k)
on_key_fits Lower table t index i key k = (t, i, k)
on_key_fits Upper table t index i key k = (t, i, k)
on_key_fits FindRank table t index i key k = (t, i, k)
on_key_fits LowerRank table t index i key k = (t, i, k)
on_key_fits UpperRank table t index i key k = (t, i, k)

at_key_fits : (op : KeyOp) (d : Data) → IsGood d → IfSome (key_command op d) CommandFits
unfolding key_command
at_key_fits op d h = with_three IsUtf8 IsUtf8 KeyFits (on_key op) (table_at d) (index_at d) (key_at d) (table_part d h) (name_part d h) (key_part d h) (on_key_fits op)

on_position_fits : (op : PositionOp) (table : List ℕ) → IsUtf8 table → (index : List ℕ) → IsUtf8 index → (position : Option HandleText) → EndFits position → CommandFits (on_position op table index position)
unfolding on_position
on_position_fits Rank table t index i position p = (t, i, p)
on_position_fits Next table t index i position p = (t, i, p)
on_position_fits Prev table t index i position p = (t, i, p)

at_position_fits : (op : PositionOp) (d : Data) → IsGood d → IfSome (position_command op d) CommandFits
unfolding position_command
at_position_fits op d h = with_three IsUtf8 IsUtf8 EndFits (on_position op) (table_at d) (index_at d) (end_at d) (table_part d h) (name_part d h) (end_part d h) (on_position_fits op)

shaped_fits : (op : Op) (d : Data) → IsGood d → IfSome (shaped op d) CommandFits
shaped_fits ops.Insert d h = insert_fits d h
shaped_fits ops.Replace d h = replace_fits d h
shaped_fits ops.Modify d h = modify_fits d h
shaped_fits ops.ModifyKey d h = modify_key_fits d h
shaped_fits ops.Erase d h = erase_fits d h
shaped_fits ops.Move d h = move_fits d h
shaped_fits ops.Rearrange d h = rearrange_fits d h
shaped_fits ops.Sort d h = sort_fits d h
shaped_fits ops.AddIndex d h = add_index_fits d h
shaped_fits ops.Get d h = get_fits d h
shaped_fits ops.Nth d h = nth_fits d h
shaped_fits ops.Place d h = place_fits d h
shaped_fits ops.Range d h = range_fits d h
shaped_fits (ops.OnTable op) d h = table_fits op d h
shaped_fits (ops.OnIndex op) d h = index_fits op d h
shaped_fits (ops.OnKey op) d h = at_key_fits op d h
shaped_fits (ops.OnPosition op) d h = at_position_fits op d h

only_fits : (b : Bool) (o : Option Command) → IfSome o CommandFits → IfSome (cond b o None) CommandFits
only_fits true o h = h
only_fits false o h = tt

object_good : (d : Data) → IsGood d → IfSome (as_object d) (λ ms. IsGood (object ms))
object_good (object ms) h = h
object_good other h = tt

command_fits : (d : Data) → IsGood d → IfSome (command_of d) CommandFits
unfolding command_of command_for
command_fits d h =
    then_some (λ ms. IsGood (object ms)) CommandFits (λ ms. option_and_then (λ op. command_for op ms) (option_and_then op_of (text_at (codes "op") d))) (as_object d) (object_good d h)
    (λ ms good. then_some (λ _. ⊤) CommandFits (λ op. command_for op ms) (option_and_then op_of (text_at (codes "op") d)) (any_some (option_and_then op_of (text_at (codes "op") d)))
    (λ op _. only_fits (has_only (keys_of op) ms) (shaped op (object ms)) (shaped_fits op (object ms) good)))

-- ---- what a line means

given_fits : (r : Result Command CommandFault) (o : Option Command) → Gives r (or_fault o) → IfSome o CommandFits → IfOk r CommandFits
given_fits (Err e) o given h = tt
given_fits (Ok c) None given h = absurd cc
given_fits (Ok c) (Some d) given h = subst (λ r. IfOk r CommandFits) given h

-- a command that was read of a value fits, where the value was read of a line
pub read_fits : (r : Result Command CommandFault) (d : Data) (o : Option Data) → Gives r (or_fault (command_of d)) → o ≡ Some d → IfSome o IsOrdered → HasTexts d → IfOk r CommandFits
read_fits r d o given is ordered utf8 = given_fits r (command_of d) given (command_fits d (subst (λ x. IfSome x IsOrdered) is ordered, utf8))
