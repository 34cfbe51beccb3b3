-- The parts of a run, combined.
use Rattle.cadf_tool.proofs.Common.{◌≡◌, ℕ, List, map, Result, Ok, Err, IfOk, IfErr, IsErrAnd, refl, sym, ap, ◌∙◌, subst, inl, inr, err_from_is_err_and, Sink, Source, Text, Loaded, ToolFault, FaultStage, Reading, Working, Writing, OutOfMemoryStage, fault_stage, source_state, AreReadWithin, IsOnOk, SourceTransition, InputSpec, Sources, with_number, both, all_from, AreLoaded, IsReadAs, IsReadWithin, IsFirstFault, IsFirstFaultBy, IsUnread, IsExpected, IsExpectedBy, IsWorkFaultBy, IsWorkedBy, IsRunBy, IsExpectedOfBy}
use Rattle.cadf_tool.specs.declared.fault.ToolFault.TheVariants.{Memory}
use Rattle.cadf_tool.specs.Run.{IsAnswer}
use Rattle.cadf_tool.proofs.LoadedLists.{none_failed, reads_first}

-- ---- what was read

-- all were read
pub record AreRead {A : Type 0} (sources : Sources A) (a : A) : Type 0 where
  pub are : sources.are a
  pub unfailed : sources.unfailed
  pub bounded : sources.bounded

-- none was read
pub record AreUntouched {A : Type 0} (sources : Sources A) : Type 0 where
  pub unread : sources.unread
  pub unfailed : sources.unfailed
  pub bounded : sources.bounded

-- one was refused, or there was no memory
pub record AreStopped {A : Type 0} (sources : Sources A) (fault : ToolFault) : Type 0 where
  pub is : IsUnread sources fault
  pub bounded : sources.bounded

pub one_read : {T : Type 0} (number : ℕ) (reader : InputSpec T) (t : SourceTransition) → IsReadWithin reader.limit t → (value : T)
    → IsReadAs reader t value → AreRead (with_number number reader t) value
one_read number reader t within value is = record { are = is; unfailed = is.1; bounded = within }

module _ {S : Type 0} (first : ℕ) (source : Source S) where
  pub all_read : (old new : List S) (ls : List Loaded) → AreReadWithin (map (source_state source) old) (map (source_state source) new)
      → AreLoaded (map (source_state source) old) (map (source_state source) new) ls → AreRead (all_from first source old new) ls
  all_read old new ls within are = record { are = are; unfailed = none_failed _ _ ls are; bounded = within }

  pub all_untouched : (inputs : List S) → AreUntouched (all_from first source inputs inputs)
  all_untouched inputs = record { unread = refl; unfailed = refl; bounded = reads_first (source_state source) inputs }

module _ {A B : Type 0} {first : Sources A} {second : Sources B} where
  pub both_read : {a : A} {b : B} → AreRead first a → AreRead second b → AreRead (both first second) (a, b)
  both_read f s = record { are = (f.are, s.are); unfailed = (f.unfailed, s.unfailed); bounded = (f.bounded, s.bounded) }

  pub first_stopped : {fault : ToolFault} → AreStopped first fault → AreUntouched second → AreStopped (both first second) fault
  first_stopped {fault} f s = record { is = at (fault_stage fault) f.is; bounded = (f.bounded, s.bounded) }
    where
      at : (stage : FaultStage) → IsFirstFault first Ok fault stage → IsFirstFault (both first second) Ok fault stage
      at (Reading n g) (is, bad) = (is, inl (bad, s.unread))
      at Working (a, are, e) = absurd (cc)
      at Writing h = h
      at OutOfMemoryStage h = (h, s.unfailed)

  pub second_stopped : {a : A} {fault : ToolFault} → AreRead first a → AreStopped second fault → AreStopped (both first second) fault
  second_stopped {a} {fault} f s = record { is = at (fault_stage fault) s.is; bounded = (f.bounded, s.bounded) }
    where
      at : (stage : FaultStage) → IsFirstFault second Ok fault stage → IsFirstFault (both first second) Ok fault stage
      at (Reading n g) (is, bad) = (is, inr ((a, f.are), bad))
      at Working (b, are, e) = absurd (cc)
      at Writing h = h
      at OutOfMemoryStage h = (f.unfailed, h)

-- there was no memory
pub starved : {A : Type 0} {sources : Sources A} {a : A} {fault : ToolFault} → fault ≡ Memory → AreRead sources a → AreStopped sources fault
starved {sources = sources} is r = subst (AreStopped sources) (sym is) (record { is = r.unfailed; bounded = r.bounded })

-- ---- a run, by what was read

not_worked : {A M : Type 0} (sources : Sources A) (work : A → Result M ToolFault → Type 0) (a : A) (fault : ToolFault) (stage : FaultStage)
    → AreRead sources a → IsWorkFaultBy (work a) fault stage → IsFirstFaultBy sources work fault stage
not_worked sources work a fault Working r h = (a, r.are, h)
not_worked sources work a fault OutOfMemoryStage r h = r.unfailed
not_worked sources work a fault _ r h = absurd h

module _ {A M : Type 0} {sources : Sources A} {work : A → Result M ToolFault → Type 0} where
  pub worked : {a : A} (expected : Result M ToolFault) → AreRead sources a → IsWorkedBy (work a) expected → IsExpectedBy sources work expected
  worked {a} (Ok made) r w = record { is = (a, r.are, w); bounded = r.bounded }
  worked {a} (Err fault) r w = record { is = not_worked sources work a fault (fault_stage fault) r w; bounded = r.bounded }

  pub worked_run : {W T : Type 0} {tell : M → Text} {sink : Sink W} {old new : W} {a : A} {result : Result T ToolFault} (expected : Result M ToolFault)
      → AreRead sources a → IsWorkedBy (work a) expected → IsAnswer tell sink old new expected result → IsRunBy sources work tell sink old new result
  worked_run expected r w answer = record { expected = expected; first = worked expected r w; answer = answer }

  -- if there is nothing to write, nothing is written, and the fault is passed on
  pub unwritten : {W T : Type 0} {tell : M → Text} {sink : Sink W} {old : W} (result : Result T ToolFault) (fault : ToolFault)
      → IsErrAnd result (λ f. f ≡ fault) → IsExpectedBy sources work (Err fault) → IsRunBy sources work tell sink old old result
  unwritten result fault passed first =
      let p = err_from_is_err_and result passed in
      record { expected = Err fault; first = first; answer = (p.1 ∙ ap Err p.2, refl) }

  unread : (fault : ToolFault) → AreStopped sources fault → IsExpectedBy sources work (Err fault)
  unread fault s = record { is = at (fault_stage fault) s.is; bounded = s.bounded }
    where
      at : (stage : FaultStage) → IsFirstFault sources Ok fault stage → IsFirstFaultBy sources work fault stage
      at Working (a, are, e) = absurd (cc)
      at _ h = h

  pub stopped : {W T : Type 0} {tell : M → Text} {sink : Sink W} {old : W} (result : Result T ToolFault) (fault : ToolFault)
      → IsErrAnd result (λ f. f ≡ fault) → AreStopped sources fault → IsRunBy sources work tell sink old old result
  stopped result fault passed s = unwritten result fault passed (unread fault s)

-- the sources are read, or one of them is not, and no work is done
pub read_whole : {A : Type 0} {sources : Sources A} {a : A} → AreRead sources a → IsExpected sources Ok (Ok a)
read_whole {a = a} r = record { is = (a, r.are, refl); bounded = r.bounded }

pub read_stopped : {A : Type 0} {sources : Sources A} (result : Result A ToolFault) (fault : ToolFault)
    → IsErrAnd result (λ f. f ≡ fault) → AreStopped sources fault → IsExpected sources Ok result
read_stopped result fault passed s =
    let p = err_from_is_err_and result passed in
    let is : result ≡ Err fault = p.1 ∙ ap Err p.2 in
    rw is (record { is = s.is; bounded = s.bounded })

-- there was no memory before a source was read
pub unstarted : {A M : Type 0} {sources : Sources A} {work : A → Result M ToolFault → Type 0} (result : Result M ToolFault) (fault : ToolFault)
    → IsErrAnd result (λ f. f ≡ fault) → fault ≡ Memory → AreUntouched sources → IsExpectedBy sources work result
unstarted {sources = sources} {work = work} result fault passed memory u =
    let p = err_from_is_err_and result passed in
    let is : result ≡ Err Memory = p.1 ∙ ap Err (p.2 ∙ memory) in
    rw is (record { is = u.unfailed; bounded = u.bounded })

-- nothing is made if the last source was not read
module _ {A B M W T : Type 0} {sources : Sources A} {number : ℕ} {t : SourceTransition} {work : A → Result M ToolFault → Type 0} {tell : M → Text}
    {sink : Sink W} {old new : W} {result : Result T ToolFault} where
  pub last_run : (reader : InputSpec B) (all : B → A) (r : Result B ToolFault) (made : Result M ToolFault)
      → ((b : B) → AreRead (with_number number reader t) b → AreRead sources (all b))
      → ((fault : ToolFault) → AreStopped (with_number number reader t) fault → AreStopped sources fault)
      → IfOk r (IsReadAs reader t) → IfErr r (IsUnread (with_number number reader t)) → IsReadWithin reader.limit t
      → IsOnOk r (λ b. IsWorkedBy (work (all b))) made → IsAnswer tell sink old new made result → IsRunBy sources work tell sink old new result
  last_run reader all (Ok b) made read stop ok err reads is answer = worked_run made (read b (one_read number reader t reads b ok)) is answer
  last_run reader all (Err fault) made read stop ok err reads is answer = record {
    expected = Err fault;
    first = unread fault (stop fault (record { is = err; bounded = reads }));
    answer = subst (λ r. IsAnswer tell sink old new r result) is answer;
  }

-- the last is the second, or the third
module _ {A B M W T : Type 0} {first : Sources A} {number : ℕ} {t : SourceTransition} {work : A × B → Result M ToolFault → Type 0} {tell : M → Text}
    {sink : Sink W} {old new : W} {a : A} {result : Result T ToolFault} where
  pub second_run : (reader : InputSpec B) (r : Result B ToolFault) (made : Result M ToolFault) → AreRead first a → IfOk r (IsReadAs reader t)
      → IfErr r (IsUnread (with_number number reader t)) → IsReadWithin reader.limit t → IsOnOk r (λ b. IsWorkedBy (work (a, b))) made
      → IsAnswer tell sink old new made result → IsRunBy (both first (with_number number reader t)) work tell sink old new result
  second_run reader r made f = last_run reader (λ b. (a, b)) r made (λ b k. both_read f k) (λ fault k. second_stopped f k)

-- by what follows from what is known of a result
pub on_ok_more : {A M : Type 0} (P Q : A → Result M ToolFault → Type 0) (r : Result A ToolFault) (made : Result M ToolFault) → IsOnOk r P made
    → ((a : A) → P a made → Q a made) → IsOnOk r Q made
on_ok_more P Q (Ok a) made is more = more a is
on_ok_more P Q (Err fault) made is more = is

-- what a work allows, a work that allows more allows
worked_at : {M : Type 0} {allowed more : Result M ToolFault → Type 0} → ((r : Result M ToolFault) → allowed r → more r) → (fault : ToolFault) (s : FaultStage)
    → IsWorkFaultBy allowed fault s → IsWorkFaultBy more fault s
worked_at is fault Working h = is (Err fault) h
worked_at is fault _ h = h

pub worked_more : {M : Type 0} {allowed more : Result M ToolFault → Type 0} → ((r : Result M ToolFault) → allowed r → more r) → (r : Result M ToolFault)
    → IsWorkedBy allowed r → IsWorkedBy more r
worked_more is (Ok made) h = is (Ok made) h
worked_more is (Err fault) h = worked_at is fault (fault_stage fault) h

pub run_more : {A M W T : Type 0} {sources : Sources A} {work more : A → Result M ToolFault → Type 0} {tell : M → Text} {sink : Sink W} {old new : W}
    {result : Result T ToolFault} → ((a : A) (r : Result M ToolFault) → work a r → more a r) → IsRunBy sources work tell sink old new result
    → IsRunBy sources more tell sink old new result
run_more {M = M} {sources = sources} {work = work} {more = more} is run = record {
  expected = run.expected;
  first = record { is = by run.expected run.first.is; bounded = run.first.bounded };
  answer = run.answer;
}
  where
    at : (fault : ToolFault) (s : FaultStage) → IsFirstFaultBy sources work fault s → IsFirstFaultBy sources more fault s
    at fault Working (a, are, h) = (a, are, is a (Err fault) h)
    at fault _ h = h

    by : (r : Result M ToolFault) → IsExpectedOfBy sources work r → IsExpectedOfBy sources more r
    by (Ok made) (a, are, h) = (a, are, is a (Ok made) h)
    by (Err fault) h = at fault (fault_stage fault) h
