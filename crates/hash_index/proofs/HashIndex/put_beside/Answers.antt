use Rattle.std.proofs.Common.{◌≡◌, ◌<◌, get_or, Some, None, refl, sym, ◌∙◌, subst, arith}
use Rattle.node_store.specs.Store.{age_of}
use Rattle.node_store.specs.ByNode.{column_of}
use Rattle.node_store.proofs.ByNode.{node_of_column}
use Rattle.hash_index.specs.Rising.{IsBefore}
use Rattle.hash_index.specs.Walks.{rest_of}
use Rattle.hash_index.specs.Spelled.{all_of, heads_of, leads_to}
use Rattle.hash_index.proofs.Heads.{slice_first}
use Rattle.hash_index.proofs.Levels.{leads_within}
use Rattle.hash_index.proofs.Changes.{some_room, head_there, known_rising, chain_begins, chain_runs, chain_lacks, older_first}
use Rattle.hash_index.proofs.Rising.{behind_first}
use Rattle.hash_index.proofs.HashIndex.put_beside.Goals as goal

pub link-link-requires : goal.link-link-requires
link-link-requires g c =
    let i = c.args.self.now in
    let cs = column_of c.args.store.now in
    let b = leads_to i c.args.hash in
    let within = leads_within i c.args.hash (some_room i c.requires.put.room) in
    let began : get_or (heads_of i) b None ≡ Some c.args.first = sym (slice_first (heads_of i) (all_of i) b refl c.args.head c.requires.head) ∙ c.requires.first in
    head_there c.args.store.now i b c.args.head within c.requires.head c.requires.put.chain c.args.first c.requires.first

pub age-requires : goal.age-requires
age-requires g c =
    let i = c.args.self.now in
    let within = leads_within i c.args.hash (some_room i c.requires.put.room) in
    node_of_column c.args.store.now i.col c.args.first (head_there c.args.store.now i (leads_to i c.args.hash) c.args.head within c.requires.head c.requires.put.chain c.args.first c.requires.first)

pub age-requires-2 : goal.age-requires-2
age-requires-2 g c = node_of_column c.args.store.now c.args.self.now.col c.args.n c.requires.put.node

pub place-up-requires-clause-new : goal.place-up-requires-clause-new
place-up-requires-clause-new g c =
    let i = c.args.self.now in
    let cs = column_of c.args.store.now in
    let b = leads_to i c.args.hash in
    let within = leads_within i c.args.hash (some_room i c.requires.put.room) in
    let began : get_or (heads_of i) b None ≡ Some c.args.first = sym (slice_first (heads_of i) (all_of i) b refl c.args.head c.requires.head) ∙ c.requires.first in
    chain_lacks cs i b c.args.first c.requires.put.chain within began c.args.n c.requires.put.new

pub place-up-requires-clause-first : goal.place-up-requires-clause-first
place-up-requires-clause-first g c =
    let i = c.args.self.now in
    let cs = column_of c.args.store.now in
    let b = leads_to i c.args.hash in
    let within = leads_within i c.args.hash (some_room i c.requires.put.room) in
    let began : get_or (heads_of i) b None ≡ Some c.args.first = sym (slice_first (heads_of i) (all_of i) b refl c.args.head c.requires.head) ∙ c.requires.first in
    chain_begins cs i b c.args.first c.requires.put.chain within began

pub place-up-requires-clause-runs : goal.place-up-requires-clause-runs
place-up-requires-clause-runs g c =
    let i = c.args.self.now in
    let cs = column_of c.args.store.now in
    let b = leads_to i c.args.hash in
    let within = leads_within i c.args.hash (some_room i c.requires.put.room) in
    let began : get_or (heads_of i) b None ≡ Some c.args.first = sym (slice_first (heads_of i) (all_of i) b refl c.args.head c.requires.head) ∙ c.requires.first in
    chain_runs cs i b c.args.first c.requires.put.chain within began

pub place-up-requires-clause-last : goal.place-up-requires-clause-last
place-up-requires-clause-last g c = λ m e.
    let i = c.args.self.now in
    let cs = column_of c.args.store.now in
    let b = leads_to i c.args.hash in
    let within = leads_within i c.args.hash (some_room i c.requires.put.room) in
    let began : get_or (heads_of i) b None ≡ Some c.args.first = sym (slice_first (heads_of i) (all_of i) b refl c.args.head c.requires.head) ∙ c.requires.first in
    known_rising cs i b c.args.first c.link-link.result c.requires.put.chain within began c.link-link.ensures m (sym c.last_of-last.ensures ∙ e)

pub put_first-requires-clause-up : goal.put_first-requires-clause-up
put_first-requires-clause-up g c =
    let i = c.args.self.now in
    let cs = column_of c.args.store.now in
    let b = leads_to i c.args.hash in
    let within = leads_within i c.args.hash (some_room i c.requires.put.room) in
    let began : get_or (heads_of i) b None ≡ Some c.args.first = sym (slice_first (heads_of i) (all_of i) b refl c.args.head c.requires.head) ∙ c.requires.first in
    let there = head_there c.args.store.now i b c.args.head within c.requires.head c.requires.put.chain c.args.first c.requires.first in
    let later : ¬ (age_of c.args.store.now c.args.first < age_of c.args.store.now c.args.n) = λ lt. omega (arith, lt, c.if-age.false, c.age.ensures.age, c.age-2.ensures.age) in
    subst (λ o. IsBefore (age_of c.args.store.now) (rest_of cs i o) c.args.n c.last_of-last.result) (sym began)
    (older_first c.args.store.now c.age.ensures.sound i b c.args.first c.args.n c.requires.put.chain within began there c.requires.put.node c.requires.put.new later c.last_of-last.result
    (λ m e. known_rising cs i b c.args.first c.link-link.result c.requires.put.chain within began c.link-link.ensures m (sym c.last_of-last.ensures ∙ e)))

pub put_behind-requires-else-link-hash-clause-at : goal.put_behind-requires-else-link-hash-clause-at
put_behind-requires-else-link-hash-clause-at g c =
    let i = c.args.self.now in
    let cs = column_of c.args.store.now in
    let b = leads_to i c.args.hash in
    let within = leads_within i c.args.hash (some_room i c.requires.put.room) in
    let began : get_or (heads_of i) b None ≡ Some c.args.first = sym (slice_first (heads_of i) (all_of i) b refl c.args.head c.requires.head) ∙ c.requires.first in
    behind_first _ c.args.first c.args.n (chain_begins cs i b c.args.first c.requires.put.chain within began)
