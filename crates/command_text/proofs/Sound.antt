-- The value that is written for a command that fits can be read back.
use Rattle.std.proofs.Common.{◌≡◌, ℕ, ◌^◌, ◌<◌, ◌≤◌, ◌&&◌, ℤ, pos, negsuc, List, [], ◌∷◌, ◌++◌, decimal, map, Bool, true, false, Option, Some, None, IsUtf8, Ordering, Less, Equal, Greater, nat_cmp, codes, refl, arith}
use Rattle.std.proofs.lemmas.Bool.{and_parts}
use Rattle.std.specs.Cmp.Lexicographic.{slice_cmp}
use Rattle.std.specs.List.{AllByRecursion}
use Rattle.std.specs.List.Sorted.{IsStrictlySortedBy}
use Rattle.std.specs.Prelude.{⊤}
use Rattle.std.proofs.lemmas.Str.{IsUtf8-append, IsUtf8-nil}
use Rattle.container_model.specs.declared.handle.Handle.{Handle}
use Rattle.container_model.specs.declared.handle.Kind.{Kind}
use Rattle.container_model.specs.declared.handle.Kind.TheVariants as kinds
use Rattle.json.proofs.Printed.Utf8.{are_ascii, IsUtf8-are_ascii}
use Rattle.serde_json.specs.Data.{Data, string, array, Members, depth, items_depth, members_depth}
use Rattle.key_extract.specs.declared.cell.Cell.TheVariants as cells
use Rattle.table_schema.specs.KindText.{kind_text}
use Rattle.table_reply.specs.Spelling.{HandleFits, spelling}
use Rattle.table_cmd.specs.declared.command.Value.{Value}
use Rattle.table_cmd.specs.declared.command.Value.TheVariants as values
use Rattle.table_cmd.specs.declared.command.Field.{Field}
use Rattle.table_cmd.specs.declared.command.Changes.TheVariants.{Set, Add, Both}
use Rattle.table_cmd.specs.declared.command.KeyBound.{KeyBound}
use Rattle.table_cmd.specs.declared.command.KeyBound.TheVariants.{Included, Excluded, Unbounded}
use Rattle.table_cmd.specs.declared.command.HandleText.{HandleText}
use Rattle.table_cmd.specs.declared.command.HandleText.TheVariants as texts
use Rattle.table_cmd.specs.declared.command.Command.{Command}
use Rattle.table_cmd.specs.declared.command.Command.TheVariants as commands
use Rattle.table_cmd.specs.Command.{table_in}
use Rattle.command_lines.specs.Fits.{IntFits, ValueFits, FieldFits, FieldsFit, HandleTextFits, EndFits, KeyFits, BoundFits, CommandFits}
use Rattle.command_lines.proofs.Order.{AreAbove}
use Rattle.command_text.specs.Text.{items_of, value_data, key_data, field_members, fields_data, handle_data, names_data, end_data, count_data, included, excluded, and_member, members_of, add_of, by_of, low_included_of, low_excluded_of, handle_of, handles_of, index_of, key_of, columns_of, new_kind_of, high_included_of, high_excluded_of, nth_of, op_name, place_of, row_of, rollback_of, unique_of, set_of, parts, command_data}
use Rattle.command_text.proofs.Compact.{decimal_utf8, IsSound, ItemsAreSound, MembersAreSound}

-- a value that can be read back, and how deep it nests
abbrev IsSoundWithin : ℕ → Data → Type 0
IsSoundWithin n d = IsSound d × (depth d ≤ n)

-- ---- values

int_sound : (z : ℤ) → IntFits z → IsSoundWithin 1 (value_data (values.Cell (cells.Int z)))
int_sound (pos n) h = (omega arith, omega arith)
int_sound (negsuc n) h = (h, omega arith)

value_sound : (v : Value) → ValueFits v → IsSoundWithin 1 (value_data v)
value_sound (values.Cell cells.Null) h = (tt, omega arith)
value_sound (values.Cell (cells.Int z)) h = int_sound z h
value_sound (values.Cell (cells.Text s)) h = (h, omega arith)
value_sound (values.Cell (cells.Bool b)) h = (tt, omega arith)
value_sound values.Other h = (tt, omega arith)

items_sound : {X : Type 0} (f : X → Data) (P : X → Type 0) → ((x : X) → P x → IsSoundWithin 1 (f x)) → (xs : List X) → AllByRecursion P xs
    → ItemsAreSound (items_of (map f xs)) × (items_depth (items_of (map f xs)) ≤ 1)
items_sound f P one [] h = (tt, omega arith)
items_sound f P one (x ∷ xs) h =
    let first = one x h.0 in
    let rest = items_sound f P one xs h.1 in
    ((first.0, rest.0), omega (arith, first.1, rest.1))

array_sound : {X : Type 0} (f : X → Data) (P : X → Type 0) → ((x : X) → P x → IsSoundWithin 1 (f x)) → (xs : List X) → AllByRecursion P xs → IsSoundWithin 2 (array (items_of (map f xs)))
array_sound f P one xs h = let s = items_sound f P one xs h in (s.0, omega (arith, s.1))

key_sound : (key : List Value) → KeyFits key → IsSoundWithin 2 (key_data key)
key_sound = array_sound value_data ValueFits value_sound

fields_above : (k : List ℕ) (fs : List Field) → AllByRecursion (λ l. slice_cmp nat_cmp k l ≡ Less) (map (λ f. f.name) fs) → AreAbove k (field_members fs)
fields_above k [] h = tt
fields_above k (f ∷ fs) h = (h.0, fields_above k fs h.1)

members_sound : (fs : List Field) → AllByRecursion FieldFits fs → IsStrictlySortedBy (slice_cmp nat_cmp) (map (λ f. f.name) fs) → MembersAreSound (field_members fs) × (members_depth (field_members fs) ≤ 1)
unfolding IsStrictlySortedBy
members_sound [] h sorted = (tt, omega arith)
members_sound (f ∷ fs) h sorted =
    let first = value_sound f.value h.0.1 in
    let rest = members_sound fs h.1 sorted.1 in
    ((h.0.0, first.0, fields_above f.name fs sorted.0, rest.0), omega (arith, first.1, rest.1))

fields_sound : (fs : List Field) → FieldsFit fs → IsSoundWithin 2 (fields_data fs)
fields_sound fs h = let s = members_sound fs h.0 h.1 in (s.0, omega (arith, s.1))

spelling_utf8 : (h : Handle) → HandleFits h → IsUtf8 (spelling h)
unfolding spelling
spelling_utf8 h fits =
    let stamp = decimal h.stamp in
    IsUtf8-append (decimal h.slot) (58 ∷ (stamp ++ [])) (decimal_utf8 h.slot (omega (arith, fits.0)))
    (IsUtf8-append (58 ∷ []) (stamp ++ []) (IsUtf8-are_ascii (58 ∷ []) refl) (IsUtf8-append stamp [] (decimal_utf8 h.stamp fits.1) IsUtf8-nil))

handle_sound : (h : HandleText) → HandleTextFits h → IsSoundWithin 1 (handle_data h)
handle_sound (texts.Handle h) fits = (spelling_utf8 h fits, omega arith)
handle_sound texts.Bad fits = (IsUtf8-nil, omega arith)

-- ---- parts

-- a part that is there can be read back
abbrev PartIsSound : Option Data → Type 0
PartIsSound None = ⊤
PartIsSound (Some d) = IsSoundWithin 2 d

text_sound : (s : List ℕ) → IsUtf8 s → PartIsSound (Some (string s))
text_sound s h = (h, omega arith)

handle_part : (h : HandleText) → HandleTextFits h → PartIsSound (Some (handle_data h))
handle_part h fits = let s = handle_sound h fits in (s.0, omega (arith, s.1))

end_part : (h : Option HandleText) → EndFits h → PartIsSound (Some (end_data h))
end_part None fits = (tt, omega arith)
end_part (Some h) fits = handle_part h fits

count_part : (n : ℕ) → n < 2 ^ 64 → PartIsSound (Some (count_data n))
count_part n h = (h, omega arith)

add_sound : (c : Command) → CommandFits c → PartIsSound (add_of c)
add_sound (commands.Modify table handle (Set set) rollback) h = tt
add_sound (commands.Modify table handle (Add add) rollback) h = fields_sound add h.2
add_sound (commands.Modify table handle (Both set add) rollback) h = fields_sound add h.2.1
add_sound other h = tt

set_sound : (c : Command) → CommandFits c → PartIsSound (set_of c)
set_sound (commands.Modify table handle (Set set) rollback) h = fields_sound set h.2
set_sound (commands.Modify table handle (Add add) rollback) h = tt
set_sound (commands.Modify table handle (Both set add) rollback) h = fields_sound set h.2.0
set_sound other h = tt

names_sound : (ns : List (List ℕ)) → AllByRecursion IsUtf8 ns → PartIsSound (Some (names_data ns))
names_sound ns h = array_sound (λ n. string n) IsUtf8 (λ n u. (u, omega arith)) ns h

by_sound : (c : Command) → CommandFits c → PartIsSound (by_of c)
by_sound (commands.Sort table index by) h = names_sound by h.2
by_sound other h = tt

included_sound : (b : KeyBound) → BoundFits b → PartIsSound (included b)
included_sound (Included key) h = key_sound key h
included_sound (Excluded key) h = tt
included_sound Unbounded h = tt

excluded_sound : (b : KeyBound) → BoundFits b → PartIsSound (excluded b)
excluded_sound (Included key) h = tt
excluded_sound (Excluded key) h = key_sound key h
excluded_sound Unbounded h = tt

ge_sound : (c : Command) → CommandFits c → PartIsSound (low_included_of c)
ge_sound (commands.Range table index low high) h = included_sound low h.2
ge_sound other h = tt

gt_sound : (c : Command) → CommandFits c → PartIsSound (low_excluded_of c)
gt_sound (commands.Range table index low high) h = excluded_sound low h.2
gt_sound other h = tt

le_sound : (c : Command) → CommandFits c → PartIsSound (high_included_of c)
le_sound (commands.Range table index low high) h = included_sound high h.3
le_sound other h = tt

lt_sound : (c : Command) → CommandFits c → PartIsSound (high_excluded_of c)
lt_sound (commands.Range table index low high) h = excluded_sound high h.3
lt_sound other h = tt

h_sound : (c : Command) → CommandFits c → PartIsSound (handle_of c)
h_sound (commands.Replace table handle row) h = handle_part handle h.1
h_sound (commands.Modify table handle changes rollback) h = handle_part handle h.1
h_sound (commands.ModifyKey table index handle key rollback) h = handle_part handle h.2
h_sound (commands.Erase table handle index) h = handle_part handle h.1
h_sound (commands.Move table index handle place) h = handle_part handle h.2
h_sound (commands.Get table handle) h = handle_part handle h.1
h_sound (commands.Place table index handle) h = handle_part handle h.2
h_sound (commands.Rank table index position) h = end_part position h.2
h_sound (commands.Next table index position) h = end_part position h.2
h_sound (commands.Prev table index position) h = end_part position h.2
h_sound other h = tt

hs_sound : (c : Command) → CommandFits c → PartIsSound (handles_of c)
hs_sound (commands.Rearrange table index handles) h = array_sound handle_data HandleTextFits handle_sound handles h.2
hs_sound other h = tt

i_sound : (c : Command) → CommandFits c → PartIsSound (index_of c)
i_sound (commands.Insert table row None) h = tt
i_sound (commands.Insert table row (Some p)) h = text_sound p.index h.2.0
i_sound (commands.ModifyKey table index handle key rollback) h = text_sound index h.1
i_sound (commands.Erase table handle None) h = tt
i_sound (commands.Erase table handle (Some index)) h = text_sound index h.2
i_sound (commands.EraseKey table index key) h = text_sound index h.1
i_sound (commands.Move table index handle place) h = text_sound index h.1
i_sound (commands.Rearrange table index handles) h = text_sound index h.1
i_sound (commands.Reverse table index) h = text_sound index h.1
i_sound (commands.Sort table index by) h = text_sound index h.1
i_sound (commands.AddIndex table index kind unique key) h = text_sound index h.1
i_sound (commands.DropIndex table index) h = text_sound index h.1
i_sound (commands.Find table index key) h = text_sound index h.1
i_sound (commands.Count table index key) h = text_sound index h.1
i_sound (commands.Lower table index key) h = text_sound index h.1
i_sound (commands.Upper table index key) h = text_sound index h.1
i_sound (commands.Range table index low high) h = text_sound index h.1
i_sound (commands.Nth table index place) h = text_sound index h.1
i_sound (commands.Rank table index position) h = text_sound index h.1
i_sound (commands.Place table index handle) h = text_sound index h.1
i_sound (commands.FindRank table index key) h = text_sound index h.1
i_sound (commands.LowerRank table index key) h = text_sound index h.1
i_sound (commands.UpperRank table index key) h = text_sound index h.1
i_sound (commands.Next table index position) h = text_sound index h.1
i_sound (commands.Prev table index position) h = text_sound index h.1
i_sound (commands.List table index) h = text_sound index h.1
i_sound other h = tt

k_sound : (c : Command) → CommandFits c → PartIsSound (key_of c)
k_sound (commands.ModifyKey table index handle key rollback) h = key_sound key h.3
k_sound (commands.EraseKey table index key) h = key_sound key h.2
k_sound (commands.Find table index key) h = key_sound key h.2
k_sound (commands.Count table index key) h = key_sound key h.2
k_sound (commands.Lower table index key) h = key_sound key h.2
k_sound (commands.Upper table index key) h = key_sound key h.2
k_sound (commands.FindRank table index key) h = key_sound key h.2
k_sound (commands.LowerRank table index key) h = key_sound key h.2
k_sound (commands.UpperRank table index key) h = key_sound key h.2
k_sound other h = tt

columns_sound : (c : Command) → CommandFits c → PartIsSound (columns_of c)
columns_sound (commands.AddIndex table index kind unique None) h = tt
columns_sound (commands.AddIndex table index kind unique (Some names)) h = names_sound names h.2
columns_sound other h = tt

kind_utf8 : (k : Kind) → IsUtf8 (kind_text k)
kind_utf8 kinds.Sequenced = IsUtf8-are_ascii (codes "sequenced") refl
kind_utf8 kinds.Random = IsUtf8-are_ascii (codes "random") refl
kind_utf8 kinds.Ordered = IsUtf8-are_ascii (codes "ordered") refl
kind_utf8 kinds.Ranked = IsUtf8-are_ascii (codes "ranked") refl
kind_utf8 kinds.Hashed = IsUtf8-are_ascii (codes "hashed") refl

kind_sound : (c : Command) → PartIsSound (new_kind_of c)
kind_sound (commands.AddIndex table index kind unique key) = text_sound (kind_text kind) (kind_utf8 kind)
kind_sound other = tt

n_sound : (c : Command) → CommandFits c → PartIsSound (nth_of c)
n_sound (commands.Nth table index place) h = count_part place h.2
n_sound other h = tt

p_sound : (c : Command) → CommandFits c → PartIsSound (place_of c)
p_sound (commands.Insert table row None) h = tt
p_sound (commands.Insert table row (Some p)) h = count_part p.place h.2.1
p_sound (commands.Move table index handle place) h = count_part place h.3
p_sound other h = tt

r_sound : (c : Command) → CommandFits c → PartIsSound (row_of c)
r_sound (commands.Insert table row position) h = fields_sound row h.1
r_sound (commands.Replace table handle row) h = fields_sound row h.2
r_sound other h = tt

rollback_sound : (c : Command) → PartIsSound (rollback_of c)
rollback_sound (commands.Modify table handle changes true) = (tt, omega arith)
rollback_sound (commands.Modify table handle changes false) = tt
rollback_sound (commands.ModifyKey table index handle key true) = (tt, omega arith)
rollback_sound (commands.ModifyKey table index handle key false) = tt
rollback_sound other = tt

unique_sound : (c : Command) → PartIsSound (unique_of c)
unique_sound (commands.AddIndex table index kind true key) = (tt, omega arith)
unique_sound (commands.AddIndex table index kind false key) = tt
unique_sound other = tt

op_utf8 : (c : Command) → IsUtf8 (op_name c)
op_utf8 (commands.Insert table row position) = IsUtf8-are_ascii (codes "insert") refl
op_utf8 (commands.Replace table handle row) = IsUtf8-are_ascii (codes "replace") refl
op_utf8 (commands.Modify table handle changes rollback) = IsUtf8-are_ascii (codes "modify") refl
op_utf8 (commands.ModifyKey table index handle key rollback) = IsUtf8-are_ascii (codes "modify_key") refl
op_utf8 (commands.Erase table handle index) = IsUtf8-are_ascii (codes "erase") refl
op_utf8 (commands.EraseKey table index key) = IsUtf8-are_ascii (codes "erase_key") refl
op_utf8 (commands.Clear table) = IsUtf8-are_ascii (codes "clear") refl
op_utf8 (commands.Move table index handle place) = IsUtf8-are_ascii (codes "move") refl
op_utf8 (commands.Rearrange table index handles) = IsUtf8-are_ascii (codes "rearrange") refl
op_utf8 (commands.Reverse table index) = IsUtf8-are_ascii (codes "reverse") refl
op_utf8 (commands.Sort table index by) = IsUtf8-are_ascii (codes "sort") refl
op_utf8 (commands.AddIndex table index kind unique key) = IsUtf8-are_ascii (codes "add_index") refl
op_utf8 (commands.DropIndex table index) = IsUtf8-are_ascii (codes "drop_index") refl
op_utf8 (commands.Get table handle) = IsUtf8-are_ascii (codes "get") refl
op_utf8 (commands.Size table) = IsUtf8-are_ascii (codes "size") refl
op_utf8 (commands.Find table index key) = IsUtf8-are_ascii (codes "find") refl
op_utf8 (commands.Count table index key) = IsUtf8-are_ascii (codes "count") refl
op_utf8 (commands.Lower table index key) = IsUtf8-are_ascii (codes "lower") refl
op_utf8 (commands.Upper table index key) = IsUtf8-are_ascii (codes "upper") refl
op_utf8 (commands.Range table index low high) = IsUtf8-are_ascii (codes "range") refl
op_utf8 (commands.Nth table index place) = IsUtf8-are_ascii (codes "nth") refl
op_utf8 (commands.Rank table index position) = IsUtf8-are_ascii (codes "rank") refl
op_utf8 (commands.Place table index handle) = IsUtf8-are_ascii (codes "place") refl
op_utf8 (commands.FindRank table index key) = IsUtf8-are_ascii (codes "find_rank") refl
op_utf8 (commands.LowerRank table index key) = IsUtf8-are_ascii (codes "lower_rank") refl
op_utf8 (commands.UpperRank table index key) = IsUtf8-are_ascii (codes "upper_rank") refl
op_utf8 (commands.Next table index position) = IsUtf8-are_ascii (codes "next") refl
op_utf8 (commands.Prev table index position) = IsUtf8-are_ascii (codes "prev") refl
op_utf8 (commands.List table index) = IsUtf8-are_ascii (codes "list") refl

op_sound : (c : Command) → PartIsSound (Some (string (op_name c)))
op_sound c = (op_utf8 c, omega arith)

table_utf8 : (c : Command) → CommandFits c → IsUtf8 (table_in c)
table_utf8 (commands.Insert table row position) h = h.0
table_utf8 (commands.Replace table handle row) h = h.0
table_utf8 (commands.Modify table handle changes rollback) h = h.0
table_utf8 (commands.ModifyKey table index handle key rollback) h = h.0
table_utf8 (commands.Erase table handle index) h = h.0
table_utf8 (commands.EraseKey table index key) h = h.0
table_utf8 (commands.Clear table) h = h
table_utf8 (commands.Move table index handle place) h = h.0
table_utf8 (commands.Rearrange table index handles) h = h.0
table_utf8 (commands.Reverse table index) h = h.0
table_utf8 (commands.Sort table index by) h = h.0
table_utf8 (commands.AddIndex table index kind unique key) h = h.0
table_utf8 (commands.DropIndex table index) h = h.0
table_utf8 (commands.Get table handle) h = h.0
table_utf8 (commands.Size table) h = h
table_utf8 (commands.Find table index key) h = h.0
table_utf8 (commands.Count table index key) h = h.0
table_utf8 (commands.Lower table index key) h = h.0
table_utf8 (commands.Upper table index key) h = h.0
table_utf8 (commands.Range table index low high) h = h.0
table_utf8 (commands.Nth table index place) h = h.0
table_utf8 (commands.Rank table index position) h = h.0
table_utf8 (commands.Place table index handle) h = h.0
table_utf8 (commands.FindRank table index key) h = h.0
table_utf8 (commands.LowerRank table index key) h = h.0
table_utf8 (commands.UpperRank table index key) h = h.0
table_utf8 (commands.Next table index position) h = h.0
table_utf8 (commands.Prev table index position) h = h.0
table_utf8 (commands.List table index) h = h.0

-- ---- objects

abbrev is_less : Ordering → Bool
is_less Less = true
is_less Equal = false
is_less Greater = false

less : (o : Ordering) → is_less o ≡ true → o ≡ Less
less Less e = refl
less Equal e = cc
less Greater e = cc

-- each key comes after this one
abbrev above : List ℕ → List (List ℕ × Option Data) → Bool
above k [] = true
above k (p ∷ ps) = is_less (slice_cmp nat_cmp k p.0) && above k ps

-- the keys are ASCII, and in ascending order
abbrev in_order : List (List ℕ × Option Data) → Bool
in_order [] = true
in_order (p ∷ ps) = are_ascii p.0 && (above p.0 ps && in_order ps)

abbrev PartsAreSound : List (List ℕ × Option Data) → Type 0
PartsAreSound = AllByRecursion (λ p. PartIsSound p.1)

and_above : (k l : List ℕ) (o : Option Data) (ms : Members) → slice_cmp nat_cmp k l ≡ Less → AreAbove k ms → AreAbove k (and_member l o ms)
and_above k l None ms e h = h
and_above k l (Some d) ms e h = (e, h)

members_above : (k : List ℕ) (ps : List (List ℕ × Option Data)) → above k ps ≡ true → AreAbove k (members_of ps)
members_above k [] e = tt
members_above k (p ∷ ps) e = let h = and_parts _ _ e in and_above k p.0 p.1 (members_of ps) (less _ h.0) (members_above k ps h.1)

and_sound : (k : List ℕ) (o : Option Data) (ms : Members) → IsUtf8 k → PartIsSound o → AreAbove k ms → MembersAreSound ms × (members_depth ms ≤ 2) → MembersAreSound (and_member k o ms) × (members_depth (and_member k o ms) ≤ 2)
and_sound k None ms u h over rest = rest
and_sound k (Some d) ms u h over rest = ((u, h.0, over, rest.0), omega (arith, h.1, rest.1))

parts_sound : (ps : List (List ℕ × Option Data)) → in_order ps ≡ true → PartsAreSound ps → MembersAreSound (members_of ps) × (members_depth (members_of ps) ≤ 2)
parts_sound [] e h = (tt, omega arith)
parts_sound (p ∷ ps) e h =
    let first = and_parts (are_ascii p.0) _ e in
    let rest = and_parts (above p.0 ps) _ first.1 in
    and_sound p.0 p.1 (members_of ps) (IsUtf8-are_ascii p.0 first.0) h.0 (members_above p.0 ps rest.0) (parts_sound ps rest.1 h.1)

-- what is written for a command can be read back
pub command_sound : (c : Command) → CommandFits c → IsSound (command_data c) × (depth (command_data c) ≤ 3)
command_sound c h =
    let s = parts_sound (parts c) refl
    (add_sound c h, (by_sound c h, (ge_sound c h, (gt_sound c h, (h_sound c h, (hs_sound c h, (i_sound c h, (k_sound c h, (columns_sound c h, (kind_sound c, (le_sound c h, (lt_sound c h, (n_sound c h, (op_sound c, (p_sound c h, (r_sound c h, (rollback_sound c, (set_sound c h, (text_sound (table_in c) (table_utf8 c h), (unique_sound c, tt)))))))))))))))))))) in
    (s.0, omega (arith, s.1))
