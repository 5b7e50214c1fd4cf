mod Numbers
mod Cells
mod Walks
