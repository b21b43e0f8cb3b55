mod Pages
