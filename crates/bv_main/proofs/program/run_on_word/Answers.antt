use Rattle.bv_main.proofs.program.run_on_word.Goals as goal

pub returns-in-New : goal.returns-in-New
returns-in-New g c = rw c.in-New.is (
  c.make-made.result,
  c.make-made.new.self,
  (c.make-made.ensures.gives, c.make-made.ensures.faults, c.make-made.ensures.blocks),
  c.run_on_file.ensures,
)

pub returns-in-File : goal.returns-in-File
returns-in-File g c = rw c.in-File.is (
  c.open-opened.result,
  c.open-opened.new.self,
  (c.open-opened.ensures.gives, c.open-opened.ensures.faults),
  c.run_on_file-in-File.ensures,
)
