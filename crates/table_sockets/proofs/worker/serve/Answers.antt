use Rattle.std.proofs.Common.{◌≡◌, Result, Ok, Err, refl, subst, List, ℕ, Option}
use Rattle.std.specs.Prelude.{OnOk}
use Rattle.std.specs.Io.KnownBytes.{Consumes}
use Rattle.shared_tables.specs.Hears.{SharedData}
use Rattle.shared_tables.specs.Pass.{PassData}
use Rattle.shared_tables.specs.declared.fault.CallFault.{CallFault}
use Rattle.shared_tables.specs.declared.fault.ServeFault.{ServeFault}
use Rattle.shared_tables.specs.declared.fault.ServeFault.TheVariants as fault
use Rattle.table_sockets.specs.Serving.{LeavesPass, Talk}
use Rattle.table_sockets.proofs.worker.serve.Goals as goal

-- of each end of a connection what it says of the pass
leaves : {Served : Type 0} (shared : SharedData) (input output : Option (List ℕ)) (pass pass' : PassData) (r : Result (Unit {0}) ServeFault)
    → OnOk r Served → ((x : Unit {0}) → Served → LeavesPass shared input output pass pass' (Ok x))
    → (r ≡ Err fault.Read → LeavesPass shared input output pass pass' (Err fault.Read))
    → (r ≡ Err fault.Write → LeavesPass shared input output pass pass' (Err fault.Write))
    → ((why : CallFault) → r ≡ Err (fault.Call why) → LeavesPass shared input output pass pass' (Err (fault.Call why)))
    → (r ≡ Err fault.Memory → pass' ≡ pass) → LeavesPass shared input output pass pass' r
leaves shared input output pass pass' (Ok x) served whole read write call memory = whole x served
leaves shared input output pass pass' (Err fault.Read) served whole read write call memory = read refl
leaves shared input output pass pass' (Err fault.Write) served whole read write call memory = write refl
leaves shared input output pass pass' (Err fault.Memory) served whole read write call memory = memory refl
leaves shared input output pass pass' (Err (fault.Call why)) served whole read write call memory = call why refl

talk : {input output : Option (List ℕ)} {is_left : Option (List ℕ) → Type 0} {writes : Option (List ℕ) → Option (List ℕ) → List ℕ → Type 0} {tells : List ℕ → List ℕ → Type 0}
    (rest sent : Option (List ℕ)) (bytes text : List ℕ) → Consumes input rest bytes → is_left rest → tells bytes text → writes output sent text
    → Talk input output is_left writes tells
talk rest sent bytes text read left is_told written = record {
  bytes = bytes;
  rest = rest;
  read = read;
  left = left;
  text = text;
  is_told = is_told;
  sent = sent;
  written = written;
}

pub returns : goal.returns
returns g c =
    let remaining = g.I.Read.remaining in
    let contents = g.O.Write.contents in
    let shared = c.args.shared.now in
    let pass = c.args.pass.now in
    let pass' = c.serve.new.pass in
    let rest = remaining c.serve.new.source.inner in
    let sent = contents c.serve.new.sink.inner in
    subst (λ it. LeavesPass shared (remaining it.inner) (contents c.args.writer) pass pass' c.serve.result) c.new.ensures
    (subst (λ it. LeavesPass shared (remaining c.new.result.inner) (contents it.inner) pass pass' c.serve.result) c.new-2.ensures
    (leaves shared (remaining c.new.result.inner) (contents c.new-2.result.inner) pass pass' c.serve.result c.serve.ensures.served
    (λ _ it. talk rest sent it.bytes it.text it.read it.ended it.is_told it.written)
    (λ is. let it = c.serve.ensures.read is in talk rest sent it.bytes it.text it.read tt it.is_told it.written)
    (λ is. let it = c.serve.ensures.write is in talk rest sent it.bytes it.text it.read tt it.is_told it.written)
    (λ why is. let it = c.serve.ensures.call why is in talk rest sent it.bytes it.text it.read tt it.is_told it.written)
    (λ is. (c.serve.ensures.memory is).0)))
