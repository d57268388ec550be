use Rattle.trap_emulate.proofs.accesses.access_device.Goals as goal

pub returns-in-Word-clause-means : goal.returns-in-Word-clause-means
returns-in-Word-clause-means c m v needs = rw (c.in-Load.is, c.in-Word.is) (c.load_from_device.ensures.means m v needs)

pub returns-in-Word-kind-clause-means : goal.returns-in-Word-kind-clause-means
returns-in-Word-kind-clause-means c m v needs = rw (c.in-Store.is, c.in-Word-kind.is) (c.store_to_device.ensures.means m v needs)
