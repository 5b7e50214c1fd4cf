use Rattle.std.proofs.Common.{◌≡◌, inr, ⊎_elim, ◌+◌, ◌<◌, ◌≤◌, ◌++◌, ◌∷◌, [], ℕ, List, length, take, drop, ap, refl, subst, sym, ◌∙◌, arith, length-drop, take-append-drop}
use Rattle.std.specs.Io.KnownBytes.{append_known}
use Rattle.std.proofs.lemmas.Bool.{cases_lt}
use Rattle.checked_log.specs.Line.{Fits, entry}
use Rattle.checked_log.specs.Whole.{ended, link_of, whole}
use Rattle.checked_log.specs.Write.{whole_line}
use Rattle.checked_log.specs.declared.recovery.Link.{Link}
use Rattle.checked_disk.specs.Plain.{plain_contents}
use Rattle.checked_disk.specs.Safe.{IsSure}
use Rattle.checked_disk.specs.Stands.{sure_text}
use Rattle.checked_disk.proofs.Begun.{begun_more, begun_moved}
use Rattle.checked_disk.proofs.Logs.{Counts, append_none, front_lacks, keeps_front, keeps_line, kept_at}
use Rattle.checked_disk.proofs.Over.{known_behind}
use Rattle.checked_disk.proofs.Sure.{appended, behind_agrees, from_lasts, front_sure, line_sure, tail_front, tail_line, tail_moved}
use Rattle.checked_disk.proofs.Synced.{synced_front, synced_line, synced_moved}
use Rattle.checked_disk.proofs.disk.CheckedDisk.put_write.Goals as goal

abbrev the_link : ℕ → ℕ → Link
the_link number digest = record { number = number; digest = digest }

pub invariant_of-self-in-Err-write : goal.invariant_of-self-in-Err-write
invariant_of-self-in-Err-write g c =
    let log = c.args.self.now.log in
    let base = c.args.self.now.texts.base in
    let old = g.F.LogFiles.contents c.args.self.now.disk.files in
    let e = entry log.durable c.in-Some.number log.last.digest c.args.write.now in
    let told = c.args.self.now.told in
    let number : e.number ≡ log.last.number + 1 = c.in-Some.ensures.1 in
    let fits : Fits e = record { durable = omega arith; number = rw number c.in-Some.ensures.0; before = omega arith; write = c.requires.plain } in
    let line : c.deref.result.now ≡ whole_line e = c.deref.ensures.value ∙ c.in-Ok.ensures.all.1 ∙ ap (λ (l : List ℕ). l ++ whole_line e) c.clear.ensures.items in
    let counts : Counts old log.end = λ x is. sym c.if-self-end.false ∙ c.args.self.now.disk.counted x is in
    let short = c.in-Err.ensures.front in
    let front = take short.0 c.deref.result.now in
    let back = drop short.0 c.deref.result.now in
    let split : front ++ back ≡ whole_line e = take-append-drop short.0 c.deref.result.now ∙ line in
    let some : 0 < length back = omega (arith, length-drop short.0 c.deref.result.now, short.1) in
    let lacks = front_lacks e front back fits some split in
    let is : g.F.LogFiles.contents c.write.new.self.files ≡ append_known old front = short.2 ∙ known_behind log.end front old counts in
    let kept = keeps_front base old front log.last log.end log.size lacks c.args.self.now.kept counts in
    let texts = c.rewind.ensures in
    let durable = c.args.self.now.texts.reader.durable in
    let tail = c.args.self.now.texts.reader.tail in
    record {
      kept = λ bytes known. kept_at base c.rewind.new.self.base bytes log.last log.last log.end log.end log.size log.size (sym texts.base) refl refl refl (kept.0 bytes (sym is ∙ known));
      reading = texts.reading (g.F.LogFiles.contents c.write.new.self.files);
      within = omega (arith, short.3, c.if-self-end.false);
      told = told;
      tail = λ bytes known.
          tail_moved base c.rewind.new.self.base durable c.rewind.new.self.reader.durable tail c.rewind.new.self.reader.tail bytes texts.base texts.durable texts.tail
          (appended old front bytes (λ b. tail ≤ length (sure_text base (whole base (ended b)) durable))
          (λ b b_is. tail_front base b log.last log.end log.size (c.args.self.now.kept b b_is) (sym (counts b b_is)) front lacks durable tail (c.args.self.now.tail b b_is)) (sym is ∙ known));
      durable = omega (arith, texts.durable, c.args.self.now.durable);
      had = begun_moved base c.rewind.new.self.base (append_known old front) (g.F.LogFiles.contents c.write.new.self.files) c.args.self.now.begun texts.base is (begun_more base old front c.args.self.now.begun c.args.self.now.had);
      written = λ over settled p low high. c.in-Err.ensures.some.kept p (c.args.self.now.written over settled p (omega (arith, texts.tail, low)) high);
      sure = λ bytes known.
          synced_moved base c.rewind.new.self.base log log bytes texts.base refl refl
          (synced_front base old log c.args.self.now.kept front lacks counts c.args.self.now.sure bytes (sym is ∙ known));
    }

pub returns-in-Err-clause-contents : goal.returns-in-Err-clause-contents
returns-in-Err-clause-contents g c =
    let log = c.args.self.now.log in
    let base = c.args.self.now.texts.base in
    let old = g.F.LogFiles.contents c.args.self.now.disk.files in
    let e = entry log.durable c.in-Some.number log.last.digest c.args.write.now in
    let told = c.args.self.now.told in
    let number : e.number ≡ log.last.number + 1 = c.in-Some.ensures.1 in
    let fits : Fits e = record { durable = omega arith; number = rw number c.in-Some.ensures.0; before = omega arith; write = c.requires.plain } in
    let line : c.deref.result.now ≡ whole_line e = c.deref.ensures.value ∙ c.in-Ok.ensures.all.1 ∙ ap (λ (l : List ℕ). l ++ whole_line e) c.clear.ensures.items in
    let counts : Counts old log.end = λ x is. sym c.if-self-end.false ∙ c.args.self.now.disk.counted x is in
    let short = c.in-Err.ensures.front in
    let front = take short.0 c.deref.result.now in
    let back = drop short.0 c.deref.result.now in
    let split : front ++ back ≡ whole_line e = take-append-drop short.0 c.deref.result.now ∙ line in
    let some : 0 < length back = omega (arith, length-drop short.0 c.deref.result.now, short.1) in
    let lacks = front_lacks e front back fits some split in
    let is : g.F.LogFiles.contents c.write.new.self.files ≡ append_known old front = short.2 ∙ known_behind log.end front old counts in
    let new = g.F.LogFiles.contents c.write.new.self.files in
    let kept = keeps_front base old front log.last log.end log.size lacks c.args.self.now.kept counts in
    let same : plain_contents c.rewind.new.self.base new ≡ append_known (plain_contents base old) [] =
    ap (λ (b : Link). plain_contents b new) c.rewind.ensures.base ∙ ap (plain_contents base) is ∙ kept.1 ∙ append_none (plain_contents base old) in
    ([], (c.args.write.now ++ (10 ∷ []), refl), same)

pub returns-in-Err-clause-front : goal.returns-in-Err-clause-front
returns-in-Err-clause-front g c =
    let log = c.args.self.now.log in
    let base = c.args.self.now.texts.base in
    let old = g.F.LogFiles.contents c.args.self.now.disk.files in
    let e = entry log.durable c.in-Some.number log.last.digest c.args.write.now in
    let told = c.args.self.now.told in
    let number : e.number ≡ log.last.number + 1 = c.in-Some.ensures.1 in
    let fits : Fits e = record { durable = omega arith; number = rw number c.in-Some.ensures.0; before = omega arith; write = c.requires.plain } in
    let line : c.deref.result.now ≡ whole_line e = c.deref.ensures.value ∙ c.in-Ok.ensures.all.1 ∙ ap (λ (l : List ℕ). l ++ whole_line e) c.clear.ensures.items in
    let counts : Counts old log.end = λ x is. sym c.if-self-end.false ∙ c.args.self.now.disk.counted x is in
    let short = c.in-Err.ensures.front in
    let front = take short.0 c.deref.result.now in
    let back = drop short.0 c.deref.result.now in
    let split : front ++ back ≡ whole_line e = take-append-drop short.0 c.deref.result.now ∙ line in
    let some : 0 < length back = omega (arith, length-drop short.0 c.deref.result.now, short.1) in
    let lacks = front_lacks e front back fits some split in
    let is : g.F.LogFiles.contents c.write.new.self.files ≡ append_known old front = short.2 ∙ known_behind log.end front old counts in
    let same : whole_line e ≡ whole_line (entry log.durable (log.last.number + 1) log.last.digest c.args.write.now) =
    ap (λ (n : ℕ). whole_line (entry log.durable n log.last.digest c.args.write.now)) number in
    record { write = c.args.write.now; front = front; plain = inr refl; is_front = (back, split ∙ same); line = is; is_then = refl }

pub returns-in-Err-clause-sure : goal.returns-in-Err-clause-sure
returns-in-Err-clause-sure g c = λ synced safe.
    let log = c.args.self.now.log in
    let base = c.args.self.now.texts.base in
    let old = g.F.LogFiles.contents c.args.self.now.disk.files in
    let e = entry log.durable c.in-Some.number log.last.digest c.args.write.now in
    let told = c.args.self.now.told in
    let number : e.number ≡ log.last.number + 1 = c.in-Some.ensures.1 in
    let fits : Fits e = record { durable = omega arith; number = rw number c.in-Some.ensures.0; before = omega arith; write = c.requires.plain } in
    let line : c.deref.result.now ≡ whole_line e = c.deref.ensures.value ∙ c.in-Ok.ensures.all.1 ∙ ap (λ (l : List ℕ). l ++ whole_line e) c.clear.ensures.items in
    let counts : Counts old log.end = λ x is. sym c.if-self-end.false ∙ c.args.self.now.disk.counted x is in
    let short = c.in-Err.ensures.front in
    let front = take short.0 c.deref.result.now in
    let back = drop short.0 c.deref.result.now in
    let split : front ++ back ≡ whole_line e = take-append-drop short.0 c.deref.result.now ∙ line in
    let some : 0 < length back = omega (arith, length-drop short.0 c.deref.result.now, short.1) in
    let lacks = front_lacks e front back fits some split in
    let is : g.F.LogFiles.contents c.write.new.self.files ≡ append_known old front = short.2 ∙ known_behind log.end front old counts in
    let kept = c.args.self.now.kept safe.bytes safe.known in
    let es = whole base (ended safe.bytes) in
    let lasts = c.write.ensures.lasts base es synced (behind_agrees base es synced log.end c.deref.result.now kept.is_end) safe.sure.each in
    let leaves = g.F.LogFiles.may_leave c.write.new.self.files in (
      from_lasts g.F.LogFiles.may_leave g.F.LogFiles.moment g.F.LogFiles.left_since c.args.self.now.disk.files c.write.new.self.files base old safe.bytes synced safe.known lasts.moments,
      (
        synced,
        omega arith,
        record {
          bytes = safe.bytes ++ front;
          known = is ∙ ap (λ o. append_known o front) safe.known;
          slot = safe.slot;
          enough = safe.enough;
          sure =
              subst (λ (b : Link). IsSure b (safe.bytes ++ front) synced leaves) (sym c.rewind.ensures.base)
              (front_sure base safe.bytes log.last log.end log.size kept (sym (counts safe.bytes safe.known)) synced leaves front lacks safe.sure.served lasts.now);
        },
      ),
    )

pub invariant_of-self-in-Ok-write : goal.invariant_of-self-in-Ok-write
invariant_of-self-in-Ok-write g c =
    let log = c.args.self.now.log in
    let base = c.args.self.now.texts.base in
    let old = g.F.LogFiles.contents c.args.self.now.disk.files in
    let e = entry log.durable c.in-Some.number log.last.digest c.args.write.now in
    let told = c.args.self.now.told in
    let number : e.number ≡ log.last.number + 1 = c.in-Some.ensures.1 in
    let fits : Fits e = record { durable = omega arith; number = rw number c.in-Some.ensures.0; before = omega arith; write = c.requires.plain } in
    let line : c.deref.result.now ≡ whole_line e = c.deref.ensures.value ∙ c.in-Ok.ensures.all.1 ∙ ap (λ (l : List ℕ). l ++ whole_line e) c.clear.ensures.items in
    let counts : Counts old log.end = λ x is. sym c.if-self-end.false ∙ c.args.self.now.disk.counted x is in
    let wrote = c.in-Ok-write.ensures in
    let is : g.F.LogFiles.contents c.write.new.self.files ≡ append_known old (whole_line e) = wrote.ok.0 ∙ known_behind log.end c.deref.result.now old counts ∙ ap (append_known old) line in
    let kept = keeps_line base old e log.last log.end log.size fits number refl c.args.self.now.kept counts in
    let long = ap length line in
    let end : log.end + length (whole_line e) ≡ c.write.new.self.size = omega (arith, wrote.ok.1, c.if-self-end.false, long) in
    let same : link_of e ≡ record { number = e.number; digest = c.in-Ok.digest } = ap (λ (d : ℕ). the_link e.number d) (sym c.in-Ok.ensures.all.0) in
    let texts = c.rewind.ensures in
    let durable = c.args.self.now.texts.reader.durable in
    let tail = c.args.self.now.texts.reader.tail in
    record {
      kept = λ bytes known.
          kept_at base c.rewind.new.self.base bytes (link_of e) _ (log.end + length (whole_line e)) _ (log.size + length (c.args.write.now ++ (10 ∷ []))) _ (sym texts.base) same end (sym c.requires.size)
          (kept.0 bytes (sym is ∙ known));
      reading = texts.reading (g.F.LogFiles.contents c.write.new.self.files);
      within = omega arith;
      told = omega arith;
      tail = λ bytes known.
          tail_moved base c.rewind.new.self.base durable c.rewind.new.self.reader.durable tail c.rewind.new.self.reader.tail bytes texts.base texts.durable texts.tail
          (appended old (whole_line e) bytes (λ b. tail ≤ length (sure_text base (whole base (ended b)) durable))
          (λ b b_is.
          tail_line base b log.last log.end log.size (c.args.self.now.kept b b_is) (sym (counts b b_is)) e fits number refl durable tail (omega (arith, c.args.self.now.durable)) (c.args.self.now.tail b b_is))
          (sym is ∙ known));
      durable = omega (arith, texts.durable, c.args.self.now.durable);
      had = begun_moved base c.rewind.new.self.base (append_known old (whole_line e)) (g.F.LogFiles.contents c.write.new.self.files) c.args.self.now.begun texts.base is (begun_more base old (whole_line e) c.args.self.now.begun c.args.self.now.had);
      written = λ over settled p low high.
          ⊎_elim (λ below. wrote.places.kept p (c.args.self.now.written over settled p (omega (arith, texts.tail, low)) below)) (λ past. wrote.places.here p past (omega (arith, end, high, long)))
          (cases_lt p log.end);
      sure = λ bytes known.
          synced_moved base c.rewind.new.self.base log log bytes texts.base refl refl
          (synced_line base old log c.args.self.now.kept e fits number refl counts c.args.self.now.sure bytes (sym is ∙ known));
    }

pub returns-in-Ok-write-clause-contents : goal.returns-in-Ok-write-clause-contents
returns-in-Ok-write-clause-contents g c =
    let log = c.args.self.now.log in
    let base = c.args.self.now.texts.base in
    let old = g.F.LogFiles.contents c.args.self.now.disk.files in
    let e = entry log.durable c.in-Some.number log.last.digest c.args.write.now in
    let told = c.args.self.now.told in
    let number : e.number ≡ log.last.number + 1 = c.in-Some.ensures.1 in
    let fits : Fits e = record { durable = omega arith; number = rw number c.in-Some.ensures.0; before = omega arith; write = c.requires.plain } in
    let line : c.deref.result.now ≡ whole_line e = c.deref.ensures.value ∙ c.in-Ok.ensures.all.1 ∙ ap (λ (l : List ℕ). l ++ whole_line e) c.clear.ensures.items in
    let counts : Counts old log.end = λ x is. sym c.if-self-end.false ∙ c.args.self.now.disk.counted x is in
    let wrote = c.in-Ok-write.ensures in
    let is : g.F.LogFiles.contents c.write.new.self.files ≡ append_known old (whole_line e) = wrote.ok.0 ∙ known_behind log.end c.deref.result.now old counts ∙ ap (append_known old) line in
    let new = g.F.LogFiles.contents c.write.new.self.files in
    let kept = keeps_line base old e log.last log.end log.size fits number refl c.args.self.now.kept counts in
    ap (λ (b : Link). plain_contents b new) c.rewind.ensures.base ∙ ap (plain_contents base) is ∙ kept.1

pub returns-in-Ok-write-clause-sure : goal.returns-in-Ok-write-clause-sure
returns-in-Ok-write-clause-sure g c = λ synced safe.
    let log = c.args.self.now.log in
    let base = c.args.self.now.texts.base in
    let old = g.F.LogFiles.contents c.args.self.now.disk.files in
    let e = entry log.durable c.in-Some.number log.last.digest c.args.write.now in
    let told = c.args.self.now.told in
    let number : e.number ≡ log.last.number + 1 = c.in-Some.ensures.1 in
    let fits : Fits e = record { durable = omega arith; number = rw number c.in-Some.ensures.0; before = omega arith; write = c.requires.plain } in
    let line : c.deref.result.now ≡ whole_line e = c.deref.ensures.value ∙ c.in-Ok.ensures.all.1 ∙ ap (λ (l : List ℕ). l ++ whole_line e) c.clear.ensures.items in
    let counts : Counts old log.end = λ x is. sym c.if-self-end.false ∙ c.args.self.now.disk.counted x is in
    let wrote = c.in-Ok-write.ensures in
    let is : g.F.LogFiles.contents c.write.new.self.files ≡ append_known old (whole_line e) = wrote.ok.0 ∙ known_behind log.end c.deref.result.now old counts ∙ ap (append_known old) line in
    let kept = c.args.self.now.kept safe.bytes safe.known in
    let es = whole base (ended safe.bytes) in
    let lasts = c.write.ensures.lasts base es synced (behind_agrees base es synced log.end c.deref.result.now kept.is_end) safe.sure.each in
    let leaves = g.F.LogFiles.may_leave c.write.new.self.files in (
      from_lasts g.F.LogFiles.may_leave g.F.LogFiles.moment g.F.LogFiles.left_since c.args.self.now.disk.files c.write.new.self.files base old safe.bytes synced safe.known lasts.moments,
      (
        synced,
        omega arith,
        record {
          bytes = safe.bytes ++ whole_line e;
          known = is ∙ ap (λ o. append_known o (whole_line e)) safe.known;
          slot = safe.slot;
          enough = safe.enough;
          sure =
              subst (λ (b : Link). IsSure b (safe.bytes ++ whole_line e) synced leaves) (sym c.rewind.ensures.base)
              (line_sure base safe.bytes log.last log.end log.size kept (sym (counts safe.bytes safe.known)) synced leaves e fits number refl safe.enough safe.sure.served lasts.now);
        },
      ),
    )
