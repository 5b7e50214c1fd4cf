use Rattle.std.proofs.Common.{◌≡◌, ◌-◌, ◌<◌, [], ◌∷◌, ◌++◌, length, Some, None, option_map, string_bytes, refl, sym, ap, ap₂, subst, ◌∙◌, arith, rules}
use Rattle.std.specs.Prelude.{IfSome}
use Rattle.json.specs.Token.{Token}
use Rattle.json.specs.Json as json
use Rattle.json.specs.Json.{parse_map, after_end_array, read_key, items, members, value}
use Rattle.json.specs.Reads.{token_of}
use Rattle.json.proofs.Grammar.{value_is, value-begin_array, value-begin_object, read_key-shorter}
use Rattle.serde_json.specs.Data.{null, boolean, number, string, array, object, no_members, put}
use Rattle.serde_json.specs.Read.{of_json, of_items, converted}
use Rattle.serde_json.specs.View.{view, items_view, members_view}
use Rattle.serde_json.specs.declared.value.Value.{String, Number, Bool, Null, Array, Object, the_lemmas}
use Rattle.serde_json.proofs.Views.{view-Array, view-Object, members_view-insert_entry}
use Rattle.command_lines.specs.Tree.{Reads}
use Rattle.command_lines.proofs.Turns.{numbered, opened, with_items, with_members, items_begun, items_turn, items_refused, items_done, members_turn, members_refused, members_unnamed, members_done}
use Rattle.command_lines.proofs.tree.+value.Goals as goal
use Rattle.command_lines.proofs.tree.+value.Goals.{read_value-in_default-via-in-Some-BeginArray+else-depth-gt0, read_value-in_default-via-in-Some-BeginObject+else-depth-gt0-2, read_value-in_default-via-in-Some+in_default, read_value-in_default-via-in_default}

pub read_items-items-init : goal.read_items-items-init
read_items-items-init t c =
    let all = items (value c.args.depth) (length c.args.reader.now) c.args.reader.now in
    (length c.args.reader.now, omega arith, omega arith, items_begun all ∙ ap (λ vs. converted (with_items vs) all) (sym c.new-found.ensures.items))

pub read_items-returns-in_default-clause-reads : goal.read_items-returns-in_default-clause-reads
read_items-returns-in_default-clause-reads t c =
    let l = c.items in
    let p = value c.args.depth in
    let rest = c.read_value.new.reader in
    let going : (after_end_array l.reader ≡ None) × (c.take_end_array.new.self ≡ l.reader) = grind arith in
    let none = subst (λ found. Reads of_json view (p c.take_end_array.new.self) found rest) c.in_default.is c.in_ok-item.ensures.reads in
    l.invariant.3 ∙ items_refused l.found.items p l.invariant.0 l.reader rest going.0 (subst (λ ts. Reads of_json view (p ts) None rest) going.1 none)

pub read_items-items-preserved : goal.read_items-items-preserved
read_items-items-preserved t c =
    let l = c.items in
    let p = value c.args.depth in
    let n = l.invariant.0 in
    let rest = c.read_value.new.reader in
    let v = c.in-Some.item in
    let going : (after_end_array l.reader ≡ None) × (c.take_end_array.new.self ≡ l.reader) = grind arith in
    let some = subst (λ found. Reads of_json view (p c.take_end_array.new.self) found rest) c.in-Some.is c.in_ok-item.ensures.reads in
    let shorter = subst (λ found. IfSome found (λ _. length rest < length c.take_end_array.new.self)) c.in-Some.is c.in_ok-item.ensures.shorter in
    let less : length rest < length l.reader = subst (λ ts. length rest < length ts) going.1 shorter in
    let grown : c.push.new.self.items ≡ l.found.items ++ v ∷ [] = c.in_ok-push.ensures.items in (
      n - 1,
      omega (arith, l.invariant.1),
      omega (arith, l.invariant.2),
      l.invariant.3 ∙ items_turn l.found.items p n l.reader rest v (omega (arith, l.invariant.1)) going.0 (subst (λ ts. Reads of_json view (p ts) (Some v) rest) going.1 some)
          ∙ ap (λ vs. converted (with_items vs) (items p (n - 1) rest)) (sym grown),
    )

pub read_items-returns-clause-reads : goal.read_items-returns-clause-reads
read_items-returns-clause-reads t c =
    let l = c.items in
    l.invariant.3 ∙ items_done l.found.items (value c.args.depth) l.invariant.0 l.reader c.take_end_array.new.self l.invariant.1 (grind arith)

pub read_members-members-init : goal.read_members-members-init
read_members-members-init t c =
    let all = members (value c.args.depth) (length c.args.reader.now) c.args.reader.now in
    (length c.args.reader.now, omega arith, omega arith, ap (λ es. converted (with_members (members_view es)) all) (sym c.new-found.ensures.empty))

pub read_members-returns-in-Ok-None-clause-reads : goal.read_members-returns-in-Ok-None-clause-reads
read_members-returns-in-Ok-None-clause-reads t c =
    let l = c.members in
    l.invariant.3 ∙ members_done (members_view l.found.entries) (value c.args.depth) l.invariant.0 l.reader c.next_key.new.self l.invariant.1 (grind arith)

pub read_members-returns-in-Err-clause-reads : goal.read_members-returns-in-Err-clause-reads
read_members-returns-in-Err-clause-reads t c =
    let l = c.members in
    l.invariant.3 ∙ members_unnamed (members_view l.found.entries) (value c.args.depth) l.invariant.0 l.reader c.in-Err.ensures.value

pub read_members-returns-in_default-clause-reads : goal.read_members-returns-in_default-clause-reads
read_members-returns-in_default-clause-reads t c =
    let l = c.members in
    let p = value c.args.depth in
    let k = c.in-Ok-Some.name.now in
    let s = c.next_key.new.self in
    let rest = c.read_value.new.reader in
    let named : read_key l.reader ≡ Some (Some k, s) = grind arith in
    let none = subst (λ found. Reads of_json view (p s) found rest) c.in_default.is c.in_ok-member.ensures.reads in
    l.invariant.3 ∙ members_refused (members_view l.found.entries) p l.invariant.0 k l.reader s rest named none

pub read_members-members-preserved : goal.read_members-members-preserved
read_members-members-preserved t c =
    let l = c.members in
    let p = value c.args.depth in
    let n = l.invariant.0 in
    let k = c.in-Ok-Some.name.now in
    let s = c.next_key.new.self in
    let rest = c.read_value.new.reader in
    let v = c.in-Some.member in
    let old = members_view l.found.entries in
    let named : read_key l.reader ≡ Some (Some k, s) = grind arith in
    let some = subst (λ found. Reads of_json view (p s) found rest) c.in-Some.is c.in_ok-member.ensures.reads in
    let less = subst (λ found. IfSome found (λ _. length rest < length s)) c.in-Some.is c.in_ok-member.ensures.shorter in
    let shorter = read_key-shorter l.reader (Some k) s named in
    let copied : string_bytes c.in_ok-name-in-Ok-Some.name ≡ k = search rules in
    let put_in : members_view c.insert.new.self.entries ≡ put k (view v) old =
    ap members_view c.in_ok-insert.ensures.entries ∙ members_view-insert_entry l.found.entries c.in_ok-name-in-Ok-Some.name v ∙ ap (λ name. put name (view v) old) copied in (
      n - 1,
      omega (arith, l.invariant.1),
      omega (arith, l.invariant.2),
      l.invariant.3 ∙ members_turn old p n k l.reader s rest v (omega (arith, l.invariant.1)) named some
          ∙ ap (λ ms. converted (with_members ms) (members p (n - 1) rest)) (sym put_in),
    )

pub read_value-returns-in-Some-Null-clause-reads : goal.read_value-returns-in-Some-Null-clause-reads
read_value-returns-in-Some-Null-clause-reads t c =
    let rest = c.next.new.self in
    let is = c.in-Some-Null.ensures.value ∙ ap (λ k. token_of k ∷ rest) c.in-Some-Null.field-0-is in
    let seen : view Null ≡ null = search (rules, the_lemmas) in
    ap (λ ts. converted of_json (value c.args.depth ts)) is ∙ ap (converted of_json) (value_is c.args.depth (Token.null ∷ rest)) ∙ ap (λ d. Some (d, rest)) (sym seen)

pub read_value-returns-in-Some-Bool-clause-reads : goal.read_value-returns-in-Some-Bool-clause-reads
read_value-returns-in-Some-Bool-clause-reads t c =
    let rest = c.next.new.self in
    let truth = c.in-Some-Bool.truth in
    let is : c.args.reader.now ≡ Token.boolean truth ∷ rest = grind arith in
    let seen : view (Bool truth) ≡ boolean truth = search (rules, the_lemmas) in
    ap (λ ts. converted of_json (value c.args.depth ts)) is ∙ ap (converted of_json) (value_is c.args.depth (Token.boolean truth ∷ rest)) ∙ ap (λ d. Some (d, rest)) (sym seen)

pub read_value-returns-in-Some-Number-clause-reads : goal.read_value-returns-in-Some-Number-clause-reads
read_value-returns-in-Some-Number-clause-reads t c =
    let rest = c.next.new.self in
    let text = c.in-Some-Number.text.now in
    let is : c.args.reader.now ≡ Token.number text ∷ rest = grind arith in
    let mapped : c.map.result ≡ option_map Number c.number_of.result = search rules in
    ap (λ ts. converted of_json (value c.args.depth ts)) is ∙ ap (converted of_json) (value_is c.args.depth (Token.number text ∷ rest))
    ∙ ap (λ n. option_map (λ d. (d, rest)) (option_map number n)) (sym c.number_of.ensures) ∙ numbered c.number_of.result rest ∙ ap (option_map (λ v. (view v, rest))) (sym mapped)

pub read_value-returns-in_ok-from_str-in-Some-String-clause-reads : goal.read_value-returns-in_ok-from_str-in-Some-String-clause-reads
read_value-returns-in_ok-from_str-in-Some-String-clause-reads t c =
    let rest = c.next.new.self in
    let text = c.in-Some-String.text.now in
    let is : c.args.reader.now ≡ Token.string text ∷ rest = grind arith in
    let seen : view (String c.in_ok-from_str-in-Some-String.field-0) ≡ string text = search (rules, the_lemmas) in
    ap (λ ts. converted of_json (value c.args.depth ts)) is ∙ ap (converted of_json) (value_is c.args.depth (Token.string text ∷ rest)) ∙ ap (λ d. Some (d, rest)) (sym seen)

pub read_value-returns-in_ok-read_items-in-Some-BeginArray-clause-reads : goal.read_value-returns-in_ok-read_items-in-Some-BeginArray-clause-reads
read_value-returns-in_ok-read_items-in-Some-BeginArray-clause-reads t c =
    let inner = c.next.new.self in
    let rest = c.read_items.new.reader in
    let found = c.in_ok-read_items-in-Some-BeginArray in
    let all = items (value (c.args.depth - 1)) (length inner) inner in
    let is = c.in-Some-BeginArray.ensures.value ∙ ap (λ k. token_of k ∷ inner) c.in-Some-BeginArray.field-0-is in
    let mapped : c.map-in-Some-BeginArray.result ≡ option_map Array found.field-0 = search rules in
    ap (λ ts. converted of_json (value c.args.depth ts)) is ∙ ap (converted of_json) (value-begin_array c.args.depth inner (omega arith))
    ∙ opened of_items (λ list. items_view list.items) json.array array Array (λ js. refl) view-Array all found.field-0 rest found.ensures.reads
    ∙ ap (option_map (λ v. (view v, rest))) (sym mapped)

pub read_value-returns-in_ok-read_members-in-Some-BeginObject-clause-reads : goal.read_value-returns-in_ok-read_members-in-Some-BeginObject-clause-reads
read_value-returns-in_ok-read_members-in-Some-BeginObject-clause-reads t c =
    let inner = c.next.new.self in
    let rest = c.read_members.new.reader in
    let found = c.in_ok-read_members-in-Some-BeginObject in
    let all = members (value (c.args.depth - 1)) (length inner) inner in
    let is = c.in-Some-BeginObject.ensures.value ∙ ap (λ k. token_of k ∷ inner) c.in-Some-BeginObject.field-0-is in
    let mapped : c.map-in-Some-BeginObject.result ≡ option_map Object found.field-0 = search rules in
    ap (λ ts. converted of_json (value c.args.depth ts)) is ∙ ap (converted of_json) (value-begin_object c.args.depth inner (omega arith))
    ∙ opened (with_members no_members) (λ map. members_view map.entries) json.object object Object (λ ms. refl) view-Object all found.field-0 rest found.ensures.reads
    ∙ ap (option_map (λ v. (view v, rest))) (sym mapped)

pub read_value-returns-in_default-clause-reads : goal.read_value-returns-in_default-clause-reads
unfolding value
read_value-returns-in_default-clause-reads t c =
    let inner = c.next.new.self in
    elim c.in_default.branch [
      | read_value-in_default-via-in-Some-BeginArray+else-depth-gt0 w ↦
          let none : c.args.depth ≡ 0 = omega arith in
          ap (converted of_json) (ap₂ value none (w.in-Some-BeginArray.ensures.value ∙ ap (λ k. token_of k ∷ inner) w.in-Some-BeginArray.field-0-is))
      | read_value-in_default-via-in-Some-BeginObject+else-depth-gt0-2 w ↦
          let none : c.args.depth ≡ 0 = omega arith in
          ap (converted of_json) (ap₂ value none (w.in-Some-BeginObject.ensures.value ∙ ap (λ k. token_of k ∷ inner) w.in-Some-BeginObject.field-0-is))
      | read_value-in_default-via-in-Some+in_default w ↦
          let first : c.args.reader.now ≡ token_of w.in_default.field-0 ∷ inner = grind arith in
          let none : value c.args.depth c.args.reader.now ≡ None = rw (value_is c.args.depth c.args.reader.now, first) (grind arith) in
          ap (converted of_json) none
      | read_value-in_default-via-in_default w ↦
          let empty : c.args.reader.now ≡ [] = grind arith in
          ap (converted of_json) (ap (value c.args.depth) empty ∙ value_is c.args.depth [])
    ]
